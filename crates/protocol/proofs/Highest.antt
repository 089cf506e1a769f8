-- Each page's highest record in a table, and the three cases of a record's link by what the next page's highest record is.
use Rattle.std.specs.Prelude.{ℕ, ◌≤◌, ◌<◌, ◌≡◌, refl, List, cond, ltb}
use Rattle.std.proofs.Common.{arith, lt-ltb, le-ltb}
use Rattle.record.specs.declared.Record.{Record}
use Rattle.record.specs.Slot.{Slot}
use Rattle.std.specs.Prelude.{Some}
use Rattle.table.specs.Table.{highest, highest_version_of, version_in}
use Rattle.table.proofs.TableLaws.{highest_is, highest_held, highest_page, highest_above, highest_exists, has_record_lem}
use Rattle.follow.specs.declared.Verdict.{Verdict}
use Rattle.follow.specs.declared.Verdict.TheVariants as says
use Rattle.protocol.specs.View.{InSlots}

module _ (S : ℕ) (t : ℕ → Slot) (bytes : ℕ → List ℕ) where
  -- r is the highest record of page p
  pub record Top (p : ℕ) (r : Record) : Type 0 where
    pub found : highest S t p ≡ Some r
    pub contents : List ℕ
    pub stored : InSlots S t bytes r contents
    pub of_page_lem : r.p ≡ p
    pub none_higher : (s : Record) (d : List ℕ) → InSlots S t bytes s d → s.p ≡ p → s.v ≤ r.v

  -- a page with a record has a highest record
  pub top_of : (p : ℕ) (s : Record) (d : List ℕ) → InSlots S t bytes s d → s.p ≡ p → (r : Record) × Top p r
  top_of p s d w q =
      let f = (highest_exists t p S).0 ((has_record_lem t p S).1 (w.0, s, w.1, w.2, q)) in
      let k = highest_held t p S (highest_is t p S) f.1 in (
        f.0,
        record {
          found = f.1;
          contents = bytes k.0;
          stored = (k.0, k.1, k.2, refl);
          of_page_lem = highest_page t p S (highest_is t p S) f.1;
          none_higher = λ a b u e. highest_above t p S (highest_is t p S) f.1 u.0 a u.1 u.2 e;
        },
      )

  pub version_top : (p : ℕ) (r : Record) → Top p r → highest_version_of S t p ≡ r.v
  unfolding highest_version_of version_in
  version_top p r top = rw top.found

  -- the verdict of J's link, where `older` is the verdict of a link below the next page's highest version
  abbrev pub link_cases : (older : Verdict) (J : Record) → Verdict
  link_cases older J = cond (ltb J.nv (highest_version_of S t J.np)) older (cond (ltb (highest_version_of S t J.np) J.nv) says.Uncommitted (says.On J.np))

  -- the three cases of a link, by the highest record s of the next page
  module _ (older : Verdict) (J s : Record) (top : Top J.np s) where
    pub link_below : J.nv < s.v → link_cases older J ≡ older
    link_below l = rw (version_top J.np s top, lt-ltb J.nv s.v l)

    pub link_above : s.v < J.nv → link_cases older J ≡ says.Uncommitted
    link_above l = rw (version_top J.np s top, le-ltb J.nv s.v (omega arith), lt-ltb s.v J.nv l)

    pub link_equal : J.nv ≡ s.v → link_cases older J ≡ says.On J.np
    link_equal e = rw (version_top J.np s top, le-ltb J.nv s.v (omega arith), le-ltb s.v J.nv (omega arith))
