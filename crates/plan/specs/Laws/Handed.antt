-- Every edit that can be asked for is handed over as ../Handed.antt says, by the types of what is lent.
use Rattle.std.specs.Prelude.{ℕ, Bool, List, get_or}
use Rattle.std.specs.Int.{w8, w32}
use Rattle.std.proofs.Common.{Fits}
use Rattle.format.specs.Laws.Format.{bytes_all}
use Rattle.rule.specs.declared.Fields.{Fields}
use Rattle.plan.specs.Edit.{switch, rename, remove, insert, add_rule, add_element, add_word}
use Rattle.plan.specs.Handed.{Handed}

-- ---- what is known of a lent `&[u8]`, and of the fields of a rule as `u32`s
abbrev pub Slice : List ℕ → Type 0
Slice s = (i : ℕ) → Fits w8 (get_or s i 0)

pub record FieldsFit (f : Fields) : Type 0 where
  pub signature : Fits w32 f.signature
  pub unknown2 : Fits w32 f.unknown2
  pub unknown3 : Fits w32 f.unknown3
  pub unknown4 : Fits w32 f.unknown4
  pub unknown5 : Fits w32 f.unknown5

pub hand_switch : (k : ℕ) (on : Bool) → Handed (switch k on)
unfolding Handed
hand_switch k on = tt

pub hand_rename : (k : ℕ) (name : List ℕ) → Slice name → Handed (rename k name)
unfolding Handed
hand_rename k name b = bytes_all name b

pub hand_remove : (k : ℕ) → Handed (remove k)
unfolding Handed
hand_remove k = tt

pub hand_insert : (k : ℕ) (second : List ℕ) (j : ℕ) → Slice second → Handed (insert k second j)
unfolding Handed
hand_insert k second j b = bytes_all second b

pub hand_add_rule : (name : List ℕ) (f : Fields) (id : ℕ) (s : List ℕ) → Slice name → FieldsFit f → Fits w32 id → Slice s → Handed (add_rule name f id s)
unfolding Handed
hand_add_rule name f id s b w i c = (bytes_all name b, ((w.signature.fits, (w.unknown2.fits, (w.unknown3.fits, (w.unknown4.fits, w.unknown5.fits)))), (i.fits, bytes_all s c)))

pub hand_add_element : (id : ℕ) (s : List ℕ) → Fits w32 id → Slice s → Handed (add_element id s)
unfolding Handed
hand_add_element id s i c = (i.fits, bytes_all s c)

pub hand_add_word : (word : List ℕ) → Slice word → Handed (add_word word)
unfolding Handed
hand_add_word word b = bytes_all word b
