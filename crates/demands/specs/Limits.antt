-- How many elements a deck can have: behind the 7 bytes or more before the rules each takes at least 10, so they are at most 5,999.
use Rattle.std.specs.Prelude.{ℕ, ◌+◌, ◌*◌, ◌≤◌, ◌<◌, ◌≡◌, List, [], ◌∷◌, ◌++◌, length, Ok, Err}
use Rattle.std.proofs.Common.{arith, ap, ◌∙◌, length-append, ne_eqb}
use Rattle.format.specs.Format.{got, Bytes, pick}
use Rattle.format.specs.ReadWrite.{pair_write, each_write, spelt}
use Rattle.format.specs.Laws.ReadWrite.{length_before}
use Rattle.format.specs.Combinators.{pair, seq, ◌then◌, judged, via, number, fixed, flag, count, each, counted, listed}
use Rattle.format.specs.Row.{total}
use Rattle.date.specs.Date.{date}
use Rattle.kind.specs.declared.Product.{Product}
use Rattle.kind.specs.declared.Role.TheVariants as Role
use Rattle.kind.specs.declared.Kind.{Kind}
use Rattle.kind.specs.Answers.{Row}
use Rattle.kind.specs.Kinds.{row_in, kinds}
use Rattle.element.specs.Data.{Data, one_zero, marker_data, simple_data, word_data, size_data, limit, date_data, data_of}
use Rattle.element.specs.Element.{Element, element, identifier, data_by}
use Rattle.rule.specs.Rule.{Rule, rule, body, head, placed, elements_in}
use Rattle.rule.specs.Places.{rule_bytes, elements_bytes}
use Rattle.rule.specs.Laws.Parts.{body_size, rule_long}
use Rattle.deck.specs.Deck.{Deck, read_as}
use Rattle.deck.specs.Laws.Deck.{read_writes_back}
use Rattle.deck.specs.Laws.Written.{rules_as, base_least, written_as, written_long}

data_least : (k : Kind) (d : Data) → 4 ≤ length ((data_of k).write d)
unfolding marker_data simple_data word_data size_data date_data limit flag date one_zero fixed listed counted count ◌then◌ seq pair pair_write via judged number spelt
data_least Kind.Marker d = omega arith
data_least (Kind.Simple r) d = omega arith
data_least Kind.WordList d = omega arith
data_least (Kind.Size r) d = omega arith
data_least (Kind.Dates r) d = omega arith

by_least : (r : Row) (d : Data) → 4 ≤ length ((data_by r).write d)
by_least (Ok k) d = data_least k d
by_least (Err why) d = data_least (Kind.Simple Role.Condition) d

element_least : (p : Product) (x : Element) → 8 ≤ length ((element p).write x)
unfolding element identifier pair pair_write judged number
element_least p x = omega (arith, length_before 4 x.0 ((data_by (row_in kinds x.0)).write x.1), by_least (row_in kinds x.0) x.1)

-- with 8001 before it
later_least : (p : Product) (j : ℕ) (x : Element) → 0 < j → 10 ≤ length ((placed p j).write x)
unfolding placed pick fixed ◌then◌ seq pair pair_write via judged number
later_least p j x h = rw (ne_eqb j 0 (λ e. omega arith)) (omega (arith, length_before 2 0x8001 ((element p).write x), element_least p x))

rest_least : (p : Product) (j : ℕ) (xs : List Element) → 0 < j → 10 * length xs ≤ length (each_write (placed p) j xs)
unfolding each_write
rest_least p j [] h = omega arith
rest_least p j (x ∷ xs) h = omega (arith, length-append ((placed p j).write x) (each_write (placed p) (j + 1) xs), later_least p j x h, rest_least p (j + 1) xs (omega arith))

elements_least : (p : Product) (xs : List Element) → 10 * length xs ≤ elements_bytes p xs + 2
unfolding each_write placed pick
elements_least p [] = omega arith
elements_least p (x ∷ xs) = omega (arith, length-append ((element p).write x) (each_write (placed p) 1 xs), element_least p x, rest_least p 1 xs (omega arith))

body_least : (p : Product) (i : ℕ) (xs : List Element) → 10 * length xs ≤ length ((body p i).write xs)
unfolding body counted count each ◌then◌ seq pair pair_write via judged number
body_least p i xs =
    let h = (head i).write tt in
    let e = each_write (placed p) 0 xs in
    omega (arith, length_before 2 (length xs) (h ++ e), length-append h e, elements_least p xs)

rule_least : (p : Product) (i : ℕ) (r : Rule) → 10 * elements_in r ≤ rule_bytes p i r
rule_least p i r = omega (arith, rule_long p i r, body_size p i r.elements, body_least p i r.elements)

rules_least : (p : Product) (i : ℕ) (rs : List Rule) → 10 * total elements_in rs ≤ length (each_write (rule p) i rs)
unfolding each_write total
rules_least p i [] = omega arith
rules_least p i (r ∷ rs) = omega (arith, length-append ((rule p i).write r) (each_write (rule p) (i + 1) rs), rule_least p i r, rules_least p (i + 1) rs)

-- each element takes at least 10 bytes of its deck
pub elements_most : (p : Product) (s : List ℕ) (k : Deck) (n : ℕ) → Bytes s → read_as p s ≡ got k n → 7 + 10 * total elements_in k.rules ≤ length s
elements_most p s k n b e =
    let v = k.version in
    let rs = k.rules in
    let w = read_writes_back p s k n b e in
    omega (arith, ap length (w.is ∙ written_as v rs p), written_long v rs, base_least v (length rs), ap length (rules_as p 0 rs), rules_least p 0 rs)

pub elements_bound : (p : Product) (s : List ℕ) (k : Deck) (n : ℕ) → Bytes s → read_as p s ≡ got k n → total elements_in k.rules ≤ 5999
elements_bound p s k n b e = omega (arith, elements_most p s k n b e, (read_writes_back p s k n b e).short)
