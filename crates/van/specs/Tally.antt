-- What is added up over the volumes that are counted, and the two lines that are printed of it.
use Rattle.std.specs.Prelude.{ℕ, ◌+◌, ◌*◌, ◌≤◌, List, [], ◌∷◌, ◌++◌}
use Rattle.fleet.specs.declared.Figures.{Figures}
use Rattle.fleet.specs.Entry.{Entry, Counted, Refused}
use Rattle.fleet.specs.Page.{totals_line, mean_line}
use Rattle.fleet.specs.PageLaws.{most_counted, Within}
use Rattle.van.specs.declared.tally.Tally.{Tally}

-- figures, added one by one
unfoldable pub together : Figures → Figures → Figures
together a b =
    record {
      pages = a.pages + b.pages;
      obsolete = a.obsolete + b.obsolete;
      exposed = a.exposed + b.exposed;
      needed = a.needed + b.needed;
    }

-- no volume is counted
unfoldable pub none_yet : Tally
none_yet = record { totals = record { pages = 0; obsolete = 0; exposed = 0; needed = 0 }; volumes = 0 }

-- one volume more: "neither kind adds anything, and the mean counts only the others"
unfoldable pub tallied_with : Tally → Entry → Tally
tallied_with t (Counted f) = record { totals = together t.totals f; volumes = t.volumes + 1 }
tallied_with t (Refused a) = t

-- the totals of n volumes at most
pub record TallyFew (n : ℕ) (t : Tally) : Type 0 where
  pub totals : Within (most_counted * n) t.totals
  pub volumes : t.volumes ≤ n

-- ---- the two lines behind those of the volumes

unfoldable pub end_text : Tally → List ℕ
end_text t = (totals_line t.totals ++ (10 ∷ [])) ++ (mean_line t.totals.pages t.volumes ++ (10 ∷ []))
