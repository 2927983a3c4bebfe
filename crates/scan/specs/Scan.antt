-- What a pass over a deck says: document 01, "Numbers a refusal gives".
use Rattle.std.specs.Prelude.{Ok, Err}
use Rattle.format.specs.Answers.{Outcome}
use Rattle.scan.specs.Answers.{Scan}
use Rattle.format.specs.declared.Refusal.TheVariants.{At}

-- the answer as document 01 has it
abbrev pub scan_says : Scan → Outcome
scan_says (Ok (v, b, n, e)) = Ok n
scan_says (Err why) = Err why
