-- Recovery's walks, for either family: under the shared clauses, and what a family's own clauses say of a highest record's link, the walk from a page ends
-- committed where the page's highest record is the committed one, and uncommitted where it is exposed. Nothing here looks at a back pointer.
use Prim.Native.Nat.{ℕ, zero, suc, ◌≤◌, ◌<◌}
use native.Mathlib.Omega.{arith}
use Rattle.std.specs.Prelude.{◌≡◌, List, ◌⊎◌}
use Rattle.std.proofs.Math.Path.{sym, subst}
use Rattle.std.proofs.Common.{ap, ◌∙◌, inl, inr}
use Rattle.std.proofs.Math.Bool.{false}
use Rattle.bounded.specs.Below.{some_below}
use Rattle.bounded.specs.BelowLaws.{some_none}
use Rattle.bounded.specs.Choice.{on_lt}
use Rattle.record.specs.declared.Record.{Record}
use Rattle.record.specs.Slot.{Slot}
use Rattle.follow.specs.declared.Verdict.{Verdict}
use Rattle.follow.specs.declared.Verdict.TheVariants as says
use Rattle.follow.specs.declared.End.TheVariants as ends
use Rattle.follow.specs.Follow.{follow, is_astray}
use Rattle.follow.proofs.Colours.{Greens, Reds, green_committed, red_uncommitted}
use Rattle.protocol.specs.View.{InSlots, record_view}
use Rattle.protocol.specs.Shared.{SharedCore, OpenWithin, OpenAtOnce}
use Rattle.protocol.proofs.Highest.{Top, top_of, link_cases, link_below, link_above, link_equal}

module _ (S : ℕ) (t : ℕ → Slot) (bytes : ℕ → List ℕ) where
  -- r is page p's highest record, and s that of the page it links to
  pub record Linked (p : ℕ) (r s : Record) : Type 0 where
    pub here : Top S t bytes p r
    pub there : Top S t bytes r.np s

  -- What a family says of the link of a page's highest record: the page's verdict is by the three cases, of which a link below the next page's highest version
  -- says committed for a committed record and uncommitted for an exposed one; and an exposed record's link at the next page's highest version leads to an exposed record.
  pub record Judged (comm : ℕ → ℕ) (verdict : ℕ → Verdict) (older : Record → Verdict) : Type 0 where
    pub by_cases : (p : ℕ) (r : Record) → Top S t bytes p r → verdict p ≡ link_cases S t bytes (older r) r
    pub committed_older : (p : ℕ) (r s : Record) → Linked p r s → r.v ≡ comm r.p → r.nv < s.v → older r ≡ says.Committed
    pub exposed_older : (p : ℕ) (r s : Record) → Linked p r s → comm r.p < r.v → r.nv < s.v → older r ≡ says.Uncommitted
    pub exposed_equal : (p : ℕ) (r s : Record) → Linked p r s → comm r.p < r.v → r.nv ≡ s.v → comm r.np < s.v

module _ {P S : ℕ} {t : ℕ → Slot} {bytes : ℕ → List ℕ} {comm : ℕ → ℕ} {kept : ℕ → List ℕ} (shared : SharedCore record_view (InSlots S t bytes) comm P kept) where
  open shared use {all_sound, one_record, committed_kept, committed_link, links_apart, exposed_open}

  -- each page has a highest record
  pub top : (p : ℕ) → p < P → (r : Record) × Top S t bytes p r
  top p h = let w = committed_kept p h in top_of S t bytes p w.0 (kept p) w.1 w.2.0

  -- … which is not below the committed one
  top_reaches : (p : ℕ) (r : Record) → p < P → Top S t bytes p r → comm p ≤ r.v
  top_reaches p r h w =
      let c = committed_kept p h in
      let l = w.none_higher c.0 (kept p) c.1 c.2.0 in
      let e = c.2.1 in
      omega arith

  -- a highest record links to a page,
  next_below : (p : ℕ) (r : Record) → Top S t bytes p r → r.np < P
  next_below p r w = record_view.sound_next P r (all_sound r w.contents w.stored)

  -- which has a highest record
  linked : (p : ℕ) (r : Record) → Top S t bytes p r → (s : Record) × Linked S t bytes p r s
  linked p r w = let n = top r.np (next_below p r w) in (n.0, record { here = w; there = n.1 })

  -- page p's highest record is the committed one
  pub record Green (p : ℕ) : Type 0 where
    pub below : p < P
    pub last : Record
    pub is_top : Top S t bytes p last
    pub committed : last.v ≡ comm last.p

  -- page p's highest record is exposed, and open within k
  pub record Red (k p : ℕ) : Type 0 where
    pub below : p < P
    pub last : Record
    pub is_top : Top S t bytes p last
    pub exposed : comm last.p < last.v
    pub is_open : OpenWithin record_view (InSlots S t bytes) comm k last

  -- every page is green or red
  pub coloured : (p : ℕ) → p < P → Green p ⊎ ((k : ℕ) × Red k p)
  coloured p h =
      let w = top p h in
      let r = w.0 in
      let reach = top_reaches p r h w.1 in
      let e = ap comm w.1.of_page_lem in
      on_lt (comm r.p) r.v
      (λ l. let o = exposed_open r w.1.contents w.1.stored l in
      inr (o.0, record { below = h; last = r; is_top = w.1; exposed = l; is_open = o.1 }))
      (λ l. inl (record { below = h; last = r; is_top = w.1; committed = omega arith }))

  module _ {verdict : ℕ → Verdict} {older : Record → Verdict} (judged : Judged S t bytes comm verdict older) where
    open judged use {by_cases, committed_older, exposed_older, exposed_equal}

    -- the verdict of a green page is committed, or on to a green page whose committed version the link has
    data GreenVerdict (p : ℕ) (r : Record) : Type 0 where
      ends_here_lem : verdict p ≡ says.Committed → GreenVerdict p r
      goes_on : verdict p ≡ says.On r.np → r.nv ≡ comm r.np → Green r.np → GreenVerdict p r

    green_verdict : (p : ℕ) (g : Green p) → GreenVerdict p g.last
    green_verdict p g =
        let r = g.last in
        let w = g.is_top in
        let n = linked p r w in
        let s = n.0 in
        let there = n.1.there in
        let low = committed_link r w.contents w.stored g.committed in
        let reach = top_reaches r.np s (next_below p r w) there in
        let at = ap comm there.of_page_lem in
        on_lt r.nv s.v
        (λ l. ends_here_lem (by_cases p r w ∙ link_below S t bytes (older r) r s there l ∙ committed_older p r s n.1 g.committed l))
        (λ l. goes_on
        (by_cases p r w ∙ link_equal S t bytes (older r) r s there (omega arith))
        (omega arith)
        (record { below = next_below p r w; last = s; is_top = there; committed = omega arith }))

    -- green pages are as following verdicts needs them: committed records of different pages have different links
    greens : Greens P verdict Green
    greens = record { green_below = λ p g. g.below; green_verdict = λ p g. step p (green_verdict p g); greens_apart = λ p p' q g g'. apart p p' q g g' (green_verdict p g) (green_verdict p' g') }
      where
        step : (p : ℕ) {r : Record} → GreenVerdict p r → (verdict p ≡ says.Committed) ⊎ ((q : ℕ) × (verdict p ≡ says.On q) × Green q)
        step p (ends_here_lem e) = inl e
        step p {r} (goes_on e n h) = inr (r.np, e, h)

        apart : (p p' q : ℕ) (g : Green p) (g' : Green p') → GreenVerdict p g.last → GreenVerdict p' g'.last → verdict p ≡ says.On q → verdict p' ≡ says.On q → p ≡ p'
        apart p p' q g g' (ends_here_lem c) v e e' = let z : ◌≡◌ {A = ℕ} 0 1 = cc in absurd (omega arith)
        apart p p' q g g' (goes_on o n h) (ends_here_lem c) e e' = let z : ◌≡◌ {A = ℕ} 0 1 = cc (c, e') in absurd (omega arith)
        apart p p' q g g' (goes_on o n h) (goes_on o' n' h') e e' =
            let w = g.is_top in
            let w' = g'.is_top in
            let a : g.last.np ≡ q = cc (o, e) in
            let a' : g'.last.np ≡ q = cc (o', e') in
            let same = a ∙ sym a' in
            sym w.of_page_lem
            ∙ links_apart g.last g'.last w.contents w'.contents w.stored w'.stored g.committed g'.committed same (n ∙ ap comm same ∙ sym n')
            ∙ w'.of_page_lem

    -- an exposed highest record whose link is at the next page's highest version links to a record open within fewer
    module _ (p : ℕ) (r s : Record) (l : Linked S t bytes p r s) (exposed : comm r.p < r.v) (e : r.nv ≡ s.v) where
      not_at_once : OpenAtOnce record_view (InSlots S t bytes) comm r → ⊥
      not_at_once (inl a) = let b = exposed_equal p r s l exposed e in omega arith
      not_at_once (inr none) = none s l.there.contents l.there.stored (l.there.of_page_lem, sym e)

      open_next : (k : ℕ) → OpenWithin record_view (InSlots S t bytes) comm k r → (j : ℕ) × (j < k) × OpenWithin record_view (InSlots S t bytes) comm j s
      unfolding OpenWithin
      open_next zero o = absurd (not_at_once o)
      open_next (suc k) (inl o) = absurd (not_at_once o)
      open_next (suc k) (inr w) =
          let same = one_record w.0 s w.1 l.there.contents w.2 l.there.stored (w.3.0 ∙ sym l.there.of_page_lem) (w.3.1 ∙ e) in
          (k, omega arith, subst (λ (x : Record). OpenWithin record_view (InSlots S t bytes) comm k x) same.0 w.4)

    -- the verdict of a red page is uncommitted, or on to a red page of lower rank
    red_verdict : (k p : ℕ) → Red k p → (verdict p ≡ says.Uncommitted) ⊎ ((q j : ℕ) × (j < k) × (verdict p ≡ says.On q) × Red j q)
    red_verdict k p g =
        let r = g.last in
        let w = g.is_top in
        let n = linked p r w in
        let s = n.0 in
        let there = n.1.there in
        on_lt r.nv s.v
        (λ l. inl (by_cases p r w ∙ link_below S t bytes (older r) r s there l ∙ exposed_older p r s n.1 g.exposed l))
        (λ l. on_lt s.v r.nv
        (λ m. inl (by_cases p r w ∙ link_above S t bytes (older r) r s there m))
        (λ m. let e : r.nv ≡ s.v = omega arith in
        let o = open_next p r s n.1 g.exposed e k g.is_open in
        let a = exposed_equal p r s n.1 g.exposed e in
        let at = ap comm there.of_page_lem in
        inr (
          r.np,
          o.0,
          o.1,
          by_cases p r w ∙ link_equal S t bytes (older r) r s there e,
          record { below = next_below p r w; last = s; is_top = there; exposed = omega arith; is_open = o.2 },
        )))

    reds : Reds P verdict Red
    reds = record { red_below = λ k p g. g.below; red_verdict = red_verdict }

    -- the walk from a committed highest record ends committed, from an exposed one uncommitted
    pub walk_green : (p : ℕ) → Green p → (follow P verdict p).end ≡ ends.Committed
    walk_green p g = green_committed greens p g

    pub walk_red : (p k : ℕ) → Red k p → (follow P verdict p).end ≡ ends.Uncommitted
    walk_red p k g = red_uncommitted reds p k g

    -- so none runs astray
    pub none_astray : some_below P (λ p. is_astray (follow P verdict p).end) ≡ false
    unfolding is_astray
    none_astray = some_none (λ p. is_astray (follow P verdict p).end) P (λ p h. by p (coloured p h))
      where
        by : (p : ℕ) → Green p ⊎ ((k : ℕ) × Red k p) → is_astray (follow P verdict p).end ≡ false
        by p (inl g) = rw (walk_green p g)
        by p (inr w) = rw (walk_red p w.0 w.1)
