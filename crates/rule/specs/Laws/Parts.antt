-- The parts of a written rule, which are the same in both editions.
use Rattle.std.specs.Prelude.{ℕ, ◌+◌, ◌<◌, ◌≡◌, refl, Bool, true, false, List, ◌++◌, length, eqb}
use Rattle.std.proofs.Common.{arith, sym, ap, ◌∙◌, append_assoc, length-append, ne_eqb}
use Rattle.format.specs.Format.{pick}
use Rattle.format.specs.ReadWrite.{pair_write, spelt, bit, each_write}
use Rattle.format.specs.Laws.ReadWrite.{length_spelt, length_before, each_alike}
use Rattle.format.specs.Combinators.{pair, seq, ◌then◌, judged, via, number, count, flag, each, counted, sized, measured}
use Rattle.text.specs.Text.{string}
use Rattle.kind.specs.declared.Product.{Product}
use Rattle.kind.specs.declared.Product.TheVariants.{Studio}
use Rattle.element.specs.Element.{Element, element, identifier}
use Rattle.rule.specs.Rule.{Rule, rule, fields, from_unknown2, from_unknown4, body, head, first_head, separator, placed}
use Rattle.rule.specs.Places.{rule_bytes}

-- Enabled and Unknown2 to Unknown5; what stands before Data Size; the bytes of the elements
unfoldable pub kept : Rule → List ℕ
kept r = spelt 4 (bit r.on) ++ (spelt 4 r.unknown2 ++ (spelt 4 r.unknown3 ++ (spelt 4 r.unknown4 ++ spelt 4 r.unknown5)))

unfoldable pub front : Rule → List ℕ
front r = spelt 4 r.signature ++ (string.write r.name ++ kept r)

unfoldable pub inner : List Element → List ℕ
inner xs = each_write (placed Studio) 0 xs

unfoldable pub head_bytes : ℕ → List ℕ
head_bytes i = (head i).write tt

-- Data Size: the number of elements, the head, the elements
unfoldable pub size_of : ℕ → List Element → ℕ
size_of i xs = 2 + (length (head_bytes i) + length (inner xs))

-- what Data Size counts, and its own field
unfoldable pub back : ℕ → List Element → List ℕ
back i xs = spelt 4 (size_of i xs) ++ (spelt 2 (length xs) ++ (head_bytes i ++ inner xs))

-- an element is written alike in both editions
pub placed_alike : (p : Product) (j : ℕ) (x : Element) → (placed p j).write x ≡ (placed Studio j).write x
unfolding placed pick element identifier judged ◌then◌ seq via pair pair_write
placed_alike p j x = go (eqb j 0)
  where
    go : (b : Bool) → (pick b (element p) (separator then element p)).write x ≡ (pick b (element Studio) (separator then element Studio)).write x
    go true = refl
    go false = refl

pub inner_as : (p : Product) (xs : List Element) → each_write (placed p) 0 xs ≡ inner xs
unfolding inner
inner_as p xs = each_alike (placed p) (placed Studio) 0 0 xs (λ n x. placed_alike p (0 + n) x)

body_is : (p : Product) (i : ℕ) (xs : List Element) → (body p i).write xs ≡ spelt 2 (length xs) ++ (head_bytes i ++ inner xs)
unfolding body counted count via judged ◌then◌ seq pair pair_write number each head_bytes
body_is p i xs = rw (inner_as p xs)

pub body_size : (p : Product) (i : ℕ) (xs : List Element) → length ((body p i).write xs) ≡ size_of i xs
unfolding size_of
body_size p i xs =
    ap length (body_is p i xs)
    ∙ omega (arith, length_before 2 (length xs) (head_bytes i ++ inner xs), length-append (head_bytes i) (inner xs))

pub rule_is : (p : Product) (i : ℕ) (r : Rule) → (rule p i).write r ≡ front r ++ back i r.elements
unfolding rule fields from_unknown2 from_unknown4 sized measured flag via judged seq pair pair_write number kept front back
rule_is p i r = rw (body_size p i r.elements, body_is p i r.elements) (simp append_assoc)

kept_long : (r : Rule) → length (kept r) ≡ 20
unfolding kept
kept_long r = simp (length-append, length_spelt)

pub front_long : (r : Rule) → length (front r) ≡ 24 + length (string.write r.name)
unfolding front
front_long r = omega (arith, length_before 4 r.signature (string.write r.name ++ kept r), length-append (string.write r.name) (kept r), kept_long r)

pub back_long : (i : ℕ) (xs : List Element) → length (back i xs) ≡ 4 + size_of i xs
unfolding back size_of
back_long i xs = simp (length-append, length_spelt)

pub rule_long : (p : Product) (i : ℕ) (r : Rule) → rule_bytes p i r ≡ 28 + length (string.write r.name) + size_of i r.elements
rule_long p i r = ap length (rule_is p i r) ∙ omega (arith, length-append (front r) (back i r.elements), front_long r, back_long i r.elements)

-- but for the first, a rule is written alike at every place
head_later : (i j : ℕ) → 0 < i → 0 < j → head_bytes i ≡ head_bytes j
unfolding head_bytes head
head_later i j h k = ap (λ (b : Bool). (pick b first_head separator).write tt) (ne_eqb i 0 (λ e. omega arith) ∙ sym (ne_eqb j 0 (λ e. omega arith)))

pub back_later : (i j : ℕ) (xs : List Element) → 0 < i → 0 < j → back i xs ≡ back j xs
unfolding back size_of
back_later i j xs h k = rw (head_later i j h k)
