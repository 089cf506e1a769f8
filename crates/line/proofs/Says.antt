-- What holds of all that a line can say holds of what a line says: its numbers are as the grammar has them.
use Rattle.std.specs.Prelude.{ℕ, ◌≤◌, ◌≡◌, refl, Bool, true, false, cond, ltb, length}
use Rattle.std.proofs.Math.Option.{Option, none, some}
use mathlib.Core.List.{List, [], ◌∷◌}
use Rattle.std.proofs.Common.{ltb-false}
use Rattle.sizes.specs.Sizes.{sizes_of}
use Rattle.text.specs.Scan.{bytes, behind, number, Scanned}
use Rattle.line.specs.Line.{Said, on_number, number_then, on_text, on_numbers, at_end, numbers, sizes_means, format_means, fill_means, write_means, withdraw_means, launch_means, erase_means, plain_means, call_means, line_means}

-- it holds of every line that can be said
pub record Sayable (Q : Said → Type 0) : Type 0 where
  pub narrow : (pages slots : ℕ) → Q (Said.Format (sizes_of pages slots 32))
  pub wide : (pages slots : ℕ) → slots ≤ 512 → Q (Said.Format (sizes_of pages slots 64))
  pub launch : (pages : List ℕ) → Q (Said.Launch pages)
  pub write : (page slot fill : ℕ) → fill ≤ 255 → Q (Said.Write page slot fill)
  pub withdraw : (page : ℕ) → Q (Said.Withdraw page)
  pub erase : (slots : List ℕ) → Q (Said.Erase slots)
  pub recover : Q Said.Recover
  pub cut : Q Said.Cut
  pub listing : Q Said.Listing
  pub malformed : Q Said.Malformed

module _ (Q : Said → Type 0) (q : Sayable Q) where
  at_end_lem : (s : List ℕ) (x : Said) → Q x → Q (at_end s x)
  unfolding at_end
  at_end_lem [] x h = h
  at_end_lem (b ∷ s) x h = q.malformed

  on_number_lem : (o : Option Scanned) (f : ℕ → List ℕ → Said) → ((n : ℕ) (s : List ℕ) → Q (f n s)) → Q (on_number o f)
  unfolding on_number
  on_number_lem none f h = q.malformed
  on_number_lem (some n) f h = h n.value n.rest

  on_text_lem : (o : Option (List ℕ)) (f : List ℕ → Said) (other : Said) → ((s : List ℕ) → Q (f s)) → Q other → Q (on_text o f other)
  unfolding on_text
  on_text_lem none f other h k = k
  on_text_lem (some s) f other h k = h s

  unless : (b : Bool) (x : Said) → (b ≡ false → Q x) → Q (cond b Said.Malformed x)
  unless true x h = q.malformed
  unless false x h = h refl

  sizes_say : (pages slots : ℕ) (s : List ℕ) → Q (sizes_means pages slots s)
  unfolding sizes_means
  sizes_say pages slots s =
      on_text_lem (behind (bytes " width=64") s) _ _
      (λ s. unless (ltb 512 slots) _ (λ e. at_end_lem s (Said.Format (sizes_of pages slots 64)) (q.wide pages slots (ltb-false 512 slots e))))
      (at_end_lem s (Said.Format (sizes_of pages slots 32)) (q.narrow pages slots))

  plain_says : (s : List ℕ) → Q (plain_means s)
  unfolding plain_means
  plain_says s =
      on_text_lem (behind (bytes "op=recover") s) _ _ (λ s. at_end_lem s Said.Recover q.recover)
      (on_text_lem (behind (bytes "op=cut") s) _ _ (λ s. at_end_lem s Said.Cut q.cut)
      (on_text_lem (behind (bytes "op=list") s) _ _ (λ s. at_end_lem s Said.Listing q.listing) q.malformed))

  pub line_says : (k : ℕ) (line : List ℕ) → Q (line_means k line)
  unfolding line_means call_means format_means launch_means write_means fill_means withdraw_means erase_means on_numbers
  line_says k line =
      unless (ltb 512 (length line)) _ (λ e.
      on_text_lem (behind (bytes "op=format pages=") line) _ _
      (λ s. on_number_lem (number_then (bytes " slots=") (number s)) _ (λ pages s. on_number_lem (number s) _ (λ slots s. sizes_say pages slots s)))
      (on_text_lem (behind (bytes "op=launch pages=") line) _ _ (λ s. on_text_lem (numbers k s) _ _ q.launch q.malformed)
      (on_text_lem (behind (bytes "op=write page=") line) _ _
      (λ s. on_number_lem (number_then (bytes " slot=") (number s)) _ (λ page s. on_number_lem (number_then (bytes " fill=") (number s)) _
      (λ slot s. on_number_lem (number s) _ (λ fill s. unless (ltb 255 fill) _ (λ e. at_end_lem s (Said.Write page slot fill) (q.write page slot fill (ltb-false 255 fill e)))))))
      (on_text_lem (behind (bytes "op=withdraw page=") line) _ _ (λ s. on_number_lem (number s) _ (λ page s. at_end_lem s (Said.Withdraw page) (q.withdraw page)))
      (on_text_lem (behind (bytes "op=erase slots=") line) _ _ (λ s. on_text_lem (numbers k s) _ _ q.erase q.malformed)
      (plain_says line))))))
