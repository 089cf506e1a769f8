-- Laws of a script's bytes.
use Rattle.std.specs.Prelude.{ℕ, ◌≤◌, ◌<◌, ◌≡◌, refl, List, [], ◌∷◌, ◌++◌, ltb, length, take}
use Rattle.std.proofs.Common.{arith, length-take, take_all}
use Rattle.std.proofs.Math.Bool.{true, false}
use Rattle.std.proofs.Math.Dec.{eqb}
use borrow.Author.Tests.{ne_eqb, eq-eqb, lt-ltb}
use Rattle.bounded.specs.Limits.{Widths}
use Rattle.bounded.specs.Choice.{on_lt}
use Rattle.text.specs.Print.{shown}
use Rattle.line.specs.Line.{Said, max_entries, line_means}
use Rattle.report.specs.Report.{Standing, idle_turn}
use Rattle.script.specs.Script.{turn}
use Rattle.feed.specs.Feed.{carried, fed}

-- The first 513 bytes of a line say what the line says: more than 512 are malformed, whatever they are.
pub enough_held : (k : ℕ) (line : List ℕ) → line_means k (take 513 line) ≡ line_means k line
unfolding line_means
enough_held k line =
    on_lt 512 (length line)
    (λ (h : 512 < length line).
    let e = length-take 513 line in
    let a : ltb 512 (length (take 513 line)) ≡ true = lt-ltb 512 (length (take 513 line)) (omega arith) in
    let b : ltb 512 (length line) ≡ true = lt-ltb 512 (length line) h in
    rw (a, b))
    (λ (h : length line ≤ 512). let e = take_all 513 line (omega arith) in rw e)

-- nothing is held of a line where the place behind it is 0
pub nothing_held : (line : List ℕ) {n : ℕ} → n ≡ 0 → shown line n ≡ []
unfolding shown
nothing_held line e = rw e refl

-- a line that is carried out is one of what its bytes say
pub line_carried :
    (widths : Widths) (s : Standing) (held line : List ℕ) (says : Said) (k : ℕ) → line ≡ held → says ≡ line_means k line → k ≡ max_entries
    → turn widths s says ≡ carried widths s held
unfolding carried
line_carried widths s held line says k el es ek = rw (es, ek, el)

-- a byte after the end, a line's end, and any other
module _ (widths : Widths) (room : ℕ) (s : Standing) (held : List ℕ) (byte : ℕ) where
  pub fed_over : s.over ≡ true → fed widths room s held byte ≡ record { turned = idle_turn s; held = held }
  unfolding fed
  fed_over o = rw o

  pub fed_line_end : s.over ≡ false → byte ≡ 10 → fed widths room s held byte ≡ record { turned = carried widths s held; held = [] }
  unfolding fed
  fed_line_end o e = let q : eqb byte 10 ≡ true = eq-eqb byte 10 e in rw (o, q)

  pub fed_byte : s.over ≡ false → ¬ (byte ≡ 10) → fed widths room s held byte ≡ record { turned = idle_turn s; held = take room (held ++ (byte ∷ [])) }
  unfolding fed
  fed_byte o d = let q : eqb byte 10 ≡ false = ne_eqb byte 10 d in rw (o, q)
