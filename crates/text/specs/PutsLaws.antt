-- Laws of texts put one behind the other.
use Rattle.std.specs.Prelude.{ℕ, ◌+◌, ◌<◌, ◌≡◌, refl, List, [], ◌∷◌, ◌++◌, length, take, get_or}
use Rattle.std.proofs.Common.{◌∙◌}
use Rattle.text.specs.declared.print.Printout.{Printout}
use Rattle.text.specs.Print.{shown, added, decimal}
use Rattle.text.specs.PrintLaws.{added_none, added_next, added_more, field_next}
use Rattle.text.specs.Puts.{Puts}

-- no text is put
pub puts_none : (print : Printout) → Puts print print []
puts_none print = record { same_buffer = refl; same_length = refl; puts = added_none print.out.now print.at }

-- one text is put, then another
pub puts_next : (old next new : Printout) (s t : List ℕ) → Puts old next s → Puts next new t → Puts old new (s ++ t)
puts_next old next new s t p q =
    record {
      same_buffer = q.same_buffer ∙ p.same_buffer;
      same_length = q.same_length ∙ p.same_length;
      puts = q.puts ∙ added_next old.out.now next.out.now old.at next.at s t p.puts p.same_length;
    }

-- a field is put, then a text
pub puts_field : (old next new : Printout) (name text : List ℕ) (n : ℕ) → Puts old next (name ++ decimal n) → Puts next new text → Puts old new (name ++ (decimal n ++ text))
puts_field old next new name text n p q =
    record {
      same_buffer = q.same_buffer ∙ p.same_buffer;
      same_length = q.same_length ∙ p.same_length;
      puts = q.puts ∙ field_next old.out.now next.out.now old.at next.at name n text p.puts p.same_length;
    }

-- one byte more of a text is put
pub puts_more : (old next new : Printout) (text : List ℕ) (i : ℕ) → i < length text → Puts old next (take i text) → Puts next new (get_or text i 0 ∷ []) → Puts old new (take (i + 1) text)
puts_more old next new text i h p q =
    record {
      same_buffer = q.same_buffer ∙ p.same_buffer;
      same_length = q.same_length ∙ p.same_length;
      puts = q.puts ∙ added_more old.out.now next.out.now text old.at next.at i h p.same_length p.puts;
    }

-- A text is put from a place of a buffer on: that is what the buffer then shows.
pub puts_from :
    (first last : Printout) (out left text : List ℕ) (at : ℕ) → Puts first last text → first.out.now ≡ out → first.at ≡ at → left ≡ last.out.now
    → shown left last.at ≡ added out at text
puts_from first last out left text at p h e l = rw (l, ← h, ← e) p.puts
