-- Document 02, W8: the place of a rule's state, as its row has it, is where the state stands, and all that a switch changes; and the lister's
-- lines, which go by the rows, are of the list of rules that was read.
use Rattle.std.specs.Prelude.{ℕ, ◌+◌, ◌-◌, ◌*◌, ◌≤◌, ◌<◌, ◌≡◌, refl, Bool, List, ◌∷◌, ◌++◌, length, take, drop, Ok, Some}
use Rattle.std.proofs.Common.{arith, sym, ap, ◌∙◌, append_assoc, length-drop, take-append-drop, drop_at, le-leb}
use Rattle.format.specs.Format.{Bytes, got, pick}
use Rattle.format.specs.ReadWrite.{spelt, value, bit}
use Rattle.format.specs.Laws.ReadWrite.{length_spelt}
use Rattle.format.specs.Combinators.{pair, seq, ◌then◌, judged, via, number}
use Rattle.format.specs.Row.{total}
use Rattle.kind.specs.declared.Product.{Product}
use Rattle.kind.specs.Kinds.{kinds, row_in, edition_of}
use Rattle.element.specs.Element.{Element, data_by}
use Rattle.rule.specs.Rule.{Rule, elements_in}
use Rattle.rule.specs.Places.{enabled_at}
use Rattle.rule.specs.Laws.Places.{rule_parts}
use Rattle.deck.specs.Deck.{mark, version, deck, read_as}
use Rattle.deck.specs.Written.{deck_of, start_of}
use Rattle.deck.specs.Laws.Written.{rules as allRules, opening, index, lead, written_is}
use Rattle.fill.specs.Rows.{rule_width, element_width}
use Rattle.tables.specs.Tables.{read_says, rules_after, elements_after}
use Rattle.buffer.specs.Laid.{put_in}
use Rattle.steps.specs.Laws.Steps.{sound_read, here, name_end}
use Rattle.locate.specs.Laws.Located.{site_of}
use Rattle.plan.specs.Edit.{switch, planned, leaves}
use Rattle.plan.specs.Laws.Found.{Makes}
use Rattle.plan.specs.Laws.Makes.{name_ends}
use Rattle.switch.specs.Laws.Switch.{switch_done}
use Rattle.asked.specs.Asked.{asked}
use Rattle.fixed.specs.Fixed.{fixed_of, fixed_fields}
use Rattle.line.specs.Line.{deck_line, rule_line, element_line}
use Rattle.listed.specs.Listed.{deck_listed, rule_listed, element_listed}
use Rattle.listed.specs.Laws.Listed.{deck_listed_as, rule_listed_as, element_listed_as}
use Rattle.demands.specs.Laws.Places.{rule_stands}
use Rattle.demands.specs.Tables.{rule_has_row, element_has_row}

-- ---- the deck s was read as the rules rs in version v: its line has that version, "version, bytes"
pub deck_is_listed : (p : Product) (v : ℕ) (s : List ℕ) (rs : List Rule) (n : ℕ) → Bytes s → read_as p s ≡ got (deck_of v rs) n → deck_listed s ≡ deck_line v (length s)
unfolding lead opening deck version ◌then◌ seq via pair judged number
deck_is_listed p v s rs n bs e =
    let o = sound_read p s (deck_of v rs) n bs e in
    let m = spelt 3 (value mark) in
    let t = spelt 2 (length rs) ++ (index v rs ++ allRules 0 rs) in
    let whole : s ≡ m ++ (spelt 2 v ++ t) = o.is ∙ written_is v rs ∙ simp append_assoc in
    let behind : drop 3 s ≡ spelt 2 v ++ t = ap (drop 3) whole ∙ drop_at m (spelt 2 v ++ t) 3 (length_spelt 3 (value mark)) in
    deck_listed_as s v (ap (number 2).read behind ∙ (number 2).back v t o.fit.0.0.0.1.0)

-- ---- the deck s was read as the rules rs in version v, and r is rule k of them
module _ (edition : ℕ) (p : Product) (ed : edition_of edition ≡ Some p) (v : ℕ) (s : List ℕ) (rs : List Rule) (n : ℕ) (bs : Bytes s) (e : read_as p s ≡ got (deck_of v rs) n) (k : ℕ) {r : Rule} {later : List Rule} (is-r : drop k rs ≡ r ∷ later) where
  -- the fixed fields are that rule's, so the four bytes that `RuleRow` has for its state are the state that they give
  pub fixed_are : fixed_fields edition k s ≡ Ok (fixed_of r)
  unfolding fixed_fields asked
  fixed_are = rw (ed, e, is-r)

  -- the tables that were lent are rules and elements, and the read was done
  module _ (rules elements : List ℕ) (m : ℕ) (done : read_says (edition_of edition) (length rules) (length elements) s ≡ Ok m) where
    -- "state ON or OFF, name units, elements"
    pub rule_is_listed : rule_listed s k (drop (rule_width * k) (rules_after (edition_of edition) s rules elements)) ≡ rule_line k r.on (length r.name.units) (length r.elements)
    rule_is_listed =
        let tail = drop (rule_width * k) (rules_after (edition_of edition) s rules elements) in
        let row = rule_has_row edition p ed v s rs n bs e rules elements m done k is-r in
        let h = rule_stands p v s rs n bs e k is-r in
        let on = (rule_parts p k s (start_of v rs k) r h.0 h.1).switched in
        let whole : tail ≡ row.start ∷ row.end ∷ row.units ∷ length r.elements ∷ row.enabled ∷ drop rule_width tail = sym (take-append-drop rule_width tail) ∙ ap (λ (w : List ℕ). w ++ drop rule_width tail) row.is in
        let is : row.enabled ≡ enabled_at (start_of v rs k) r = row.stands ∙ ap (λ (a : ℕ). enabled_at a r) row.starts in
        let read : (number 4).read (drop row.enabled s) ≡ got (bit r.on) _ = ap (λ (a : ℕ). (number 4).read (drop a s)) is ∙ ap (number 4).read on.1.is ∙ (number 4).back (bit r.on) on.0 on.1.fit in
        ap (rule_listed s k) whole ∙ rule_listed_as s k row.start row.end row.units (length r.elements) row.enabled (length r.name.units) r.on (drop rule_width tail) row.behind read

    -- "element within its rule, identifier in eight upper-case hex digits, data bytes"
    pub element_is_listed : (i : ℕ) {x : Element} {others : List Element} → drop i r.elements ≡ x ∷ others
        → element_listed i (drop (element_width * (total elements_in (take k rs) + i)) (elements_after (edition_of edition) s rules elements)) ≡ element_line i x.0 (length ((data_by (row_in kinds x.0)).write x.1))
    element_is_listed i {x} is_x =
        let tail = drop (element_width * (total elements_in (take k rs) + i)) (elements_after (edition_of edition) s rules elements) in
        let row = element_has_row edition p ed v s rs n bs e rules elements m done k is-r i is_x in
        let whole : tail ≡ x.0 ∷ k ∷ row.start ∷ row.end ∷ drop element_width tail = sym (take-append-drop element_width tail) ∙ ap (λ (w : List ℕ). w ++ drop element_width tail) row.is in
        let bytes : row.end - row.start ≡ length ((data_by (row_in kinds x.0)).write x.1) = omega (arith, row.written.ends) in
        ap (element_listed i) whole ∙ element_listed_as i x.0 k row.start row.end (drop element_width tail) ∙ ap (element_line i x.0) bytes

-- ---- the deck in the first n bytes of the buffer d was read as the rules rs in version v, and r is rule k of them: a switch puts the state into its four bytes, and no other byte changes
pub switch_changes : (edition : ℕ) (p : Product) → edition_of edition ≡ Some p → (d : List ℕ) (n : ℕ) → n ≤ length d → Bytes (take n d) → (v : ℕ) (rs : List Rule) (m : ℕ) → read_as p (take n d) ≡ got (deck_of v rs) m → (k : ℕ) {r : Rule} {later : List Rule} → drop k rs ≡ r ∷ later → (on : Bool)
    → leaves n d (planned edition n d (switch k on)) ≡ put_in d (enabled_at (start_of v rs k) r) (spelt 4 (bit on))
unfolding planned Makes pick
switch_changes edition p ed d n l bs v rs m e k {r} is-r on =
    let o = sound_read p (take n d) (deck_of v rs) m bs e in
    let few : k < length rs = omega (arith, length-drop k rs, ap length is-r) in
    let h = here p v (take n d) rs k o few in
    let both : h.r ∷ h.later ≡ r ∷ _ = sym h.from ∙ is-r in
    let same : h.r ≡ r = cc in
    let ends : name_end d (start_of v rs k) ≡ enabled_at (start_of v rs k) r = name_ends n d h ∙ ap (enabled_at (start_of v rs k)) same in
    let does = switch_done edition k (site_of (λ xs. k) n v rs) on d (name_end d (start_of v rs k)) few refl refl p v rs ed (record { sound = o; within = l; version = refl; many = refl; base = refl; starts = refl; ends = refl }) in
    rw (ed, le-leb n (length d) l, e) (sym does.1 ∙ ap (λ (a : ℕ). put_in d a (spelt 4 (bit on))) ends)
