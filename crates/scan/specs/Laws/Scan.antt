-- The four that a pass tells, each apart.
use Rattle.std.specs.Prelude.{ℕ, ◌≡◌, Ok, Err}
use Rattle.std.proofs.Common.{ap}
use Rattle.scan.specs.Answers.{Scan}

abbrev version_in : Scan → ℕ
version_in (Ok (v, b, n, m)) = v
version_in (Err why) = 0

abbrev base_in : Scan → ℕ
base_in (Ok (v, b, n, m)) = b
base_in (Err why) = 0

abbrev rules_in : Scan → ℕ
rules_in (Ok (v, b, n, m)) = n
rules_in (Err why) = 0

abbrev elements_in : Scan → ℕ
elements_in (Ok (v, b, n, m)) = m
elements_in (Err why) = 0

pub record Alike (v b n m v' b' n' m' : ℕ) : Type 0 where
  pub version : v ≡ v'
  pub base : b ≡ b'
  pub rules : n ≡ n'
  pub elements : m ≡ m'

pub scan_parts : {v b n m v' b' n' m' : ℕ} → ◌≡◌ {A = Scan} (Ok (v, b, n, m)) (Ok (v', b', n', m')) → Alike v b n m v' b' n' m'
scan_parts e = record { version = ap version_in e; base = ap base_in e; rules = ap rules_in e; elements = ap elements_in e }
