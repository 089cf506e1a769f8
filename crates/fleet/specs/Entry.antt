-- What a volume comes to, and what a call gives back that says it.
use Rattle.std.specs.Prelude.{ℕ, Result, Ok, Err}
use Rattle.outcome.specs.declared.Refusal.{Refusal}
use Rattle.outcome.specs.Result.{number_of}
use Rattle.fleet.specs.declared.Figures.{Figures}

-- it is counted, or refused by a number
pub data Entry : Type 0 where
  Counted : (figures : Figures) → Entry
  Refused : (answer : ℕ) → Entry

abbrev pub comes_to : Result Figures Refusal → Entry
comes_to (Ok figures) = Counted figures
comes_to (Err refusal) = Refused (number_of refusal)

-- … where the refusal is given as its number
abbrev pub comes_to_number : Result Figures ℕ → Entry
comes_to_number (Ok figures) = Counted figures
comes_to_number (Err answer) = Refused answer
