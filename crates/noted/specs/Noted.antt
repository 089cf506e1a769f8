-- What is noted: the first numbers of the buffer.
use Rattle.std.specs.Prelude.{ℕ, List, take}
use Rattle.noted.specs.declared.Slots.{Slots}

abbrev pub noted : Slots → List ℕ
noted s = take s.count s.numbers
