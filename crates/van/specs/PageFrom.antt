-- The page, printed line by line: what is still to be printed once some volumes are.
use Rattle.std.specs.Prelude.{ℕ, suc, ◌+◌, ◌≡◌, refl, List, [], ◌∷◌, ◌++◌, length}
use Rattle.std.proofs.Common.{arith, sym, ap, ◌∙◌, append_assoc}
use Rattle.bounded.specs.Limits.{Widths}
use Rattle.fleet.specs.Entry.{Entry, Counted, Refused}
use Rattle.fleet.specs.Input.{entries_of}
use Rattle.fleet.specs.Page.{counted, sum_of, totals, volume_line, volume_lines, totals_line, mean_line, page_lines, as_text, van_page}
use Rattle.van.specs.declared.tally.Tally.{Tally}
use Rattle.van.specs.Tally.{together, none_yet, tallied_with, end_text}

-- the lines of these volumes, from this number on, and the two behind them
unfoldable pub page_from : Tally → (number : ℕ) → List Entry → List ℕ
page_from t number [] = end_text t
page_from t number (e ∷ entries) = (volume_line number e ++ (10 ∷ [])) ++ page_from (tallied_with t e) (suc number) entries

-- ---- the tally of all volumes

unfoldable pub tallied_all : Tally → List Entry → Tally
tallied_all t [] = t
tallied_all t (e ∷ entries) = tallied_all (tallied_with t e) entries

abbrev tally_of : (pages obsolete exposed needed volumes : ℕ) → Tally
tally_of p o e n v = record { totals = record { pages = p; obsolete = o; exposed = e; needed = n }; volumes = v }

same_tally : {p o e n v p' o' e' n' v' : ℕ} → p ≡ p' → o ≡ o' → e ≡ e' → n ≡ n' → v ≡ v' → tally_of p o e n v ≡ tally_of p' o' e' n' v'
same_tally a b c d f = rw (a, b, c, d, f)

-- one that counts nothing
pub none_is : (t : Tally) → ((t.totals.pages ≡ 0) × ((t.totals.obsolete ≡ 0) × ((t.totals.exposed ≡ 0) × (t.totals.needed ≡ 0)))) × (t.volumes ≡ 0) → t ≡ none_yet
unfolding none_yet
none_is t h = same_tally h.0.0 h.0.1.0 h.0.1.1.0 h.0.1.1.1 h.1

-- it has the sums of the figures counted, and their number
tallied_is :
    (p o e n v : ℕ) (entries : List Entry)
    → tallied_all (tally_of p o e n v) entries
    ≡ tally_of
    (p + (totals (counted entries)).pages)
    (o + (totals (counted entries)).obsolete)
    (e + (totals (counted entries)).exposed)
    (n + (totals (counted entries)).needed)
    (v + length (counted entries))
unfolding tallied_all tallied_with together counted totals sum_of
tallied_is p o e n v [] = same_tally (omega arith) (omega arith) (omega arith) (omega arith) (omega arith)
tallied_is p o e n v (Counted f ∷ entries) =
    tallied_is (p + f.pages) (o + f.obsolete) (e + f.exposed) (n + f.needed) (v + 1) entries
    ∙ same_tally (omega arith) (omega arith) (omega arith) (omega arith) (omega arith)
tallied_is p o e n v (Refused a ∷ entries) = tallied_is p o e n v entries

all_tallied : (entries : List Entry) → tallied_all none_yet entries ≡ record { totals = totals (counted entries); volumes = length (counted entries) }
unfolding none_yet totals
all_tallied entries = tallied_is 0 0 0 0 0 entries ∙ same_tally (omega arith) (omega arith) (omega arith) (omega arith) (omega arith)

-- ---- the text of all lines

text_behind : (a b : List (List ℕ)) → as_text (a ++ b) ≡ as_text a ++ as_text b
unfolding as_text
text_behind [] b = refl
text_behind (line ∷ a) b = rw (text_behind a b, append_assoc line (10 ∷ as_text a) (as_text b))

lines_from : (t : Tally) (number : ℕ) (entries : List Entry) → page_from t number entries ≡ as_text (volume_lines number entries) ++ end_text (tallied_all t entries)
unfolding page_from tallied_all volume_lines as_text
lines_from t number [] = refl
lines_from t number (e ∷ entries) =
    let line = volume_line number e in
    let rest = as_text (volume_lines (suc number) entries) in
    let last = end_text (tallied_all (tallied_with t e) entries) in
    ap (λ (l : List ℕ). (line ++ (10 ∷ [])) ++ l) (lines_from (tallied_with t e) (suc number) entries)
    ∙ append_assoc line (10 ∷ []) (rest ++ last)
    ∙ sym (append_assoc line (10 ∷ rest) last)

end_is : (entries : List Entry) → end_text (tallied_all none_yet entries) ≡ as_text (totals_line (totals (counted entries)) ∷ mean_line (totals (counted entries)).pages (length (counted entries)) ∷ [])
unfolding end_text as_text
end_is entries =
    ap end_text (all_tallied entries) ∙ append_assoc (totals_line (totals (counted entries))) (10 ∷ []) (mean_line (totals (counted entries)).pages (length (counted entries)) ++ (10 ∷ []))

-- What is printed for an input, from its first line on.
pub page_is : (widths : Widths) (input : List ℕ) → van_page widths input ≡ page_from none_yet 1 (entries_of widths 32 input)
unfolding van_page page_lines
page_is widths input =
    let entries = entries_of widths 32 input in
    text_behind (volume_lines 1 entries) (totals_line (totals (counted entries)) ∷ mean_line (totals (counted entries)).pages (length (counted entries)) ∷ [])
    ∙ ap (λ (l : List ℕ). as_text (volume_lines 1 entries) ++ l) (sym (end_is entries))
    ∙ sym (lines_from none_yet 1 entries)
