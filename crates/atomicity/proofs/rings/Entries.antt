-- Bytes entered for a page: what a ring, the open rings and the kept contents become. Laws of the lists alone.
use Rattle.std.specs.Prelude.{ℕ, ◌≡◌, ◌⊎◌, ◌↔◌, cond}
use Rattle.std.proofs.Math.Path.{refl, sym, ap, ap₂}
use Rattle.std.proofs.Common.{◌∙◌, subst, eq-eqb, ne_eqb}
use Rattle.std.proofs.Math.Logic.{inl, inr}
use mathlib.Core.List.Memᴰ
use mathlib.Core.List.{List, [], ◌∷◌, map, Memᴰ}
use Rattle.std.proofs.Math.Bool.{true, false, ◌||◌}
use Rattle.std.proofs.Math.Dec.{eqb}
use Rattle.bounded.specs.Choice.{on_eq, on_test, never, neither_left, neither_right}
use Rattle.atomicity.specs.Model.{Entry, entry_page, in_ring, all_entered, enter_in, keep, with_ring, settle_ring, enter, close_ring}
use Rattle.atomicity.specs.rings.Match.{pages_of, in_rings, ring_of, IsEntered, NoRepeats, Apart}
use Rattle.atomicity.proofs.rings.Laws.{in_ring_cases, in_ring_behind, entry_in_ring, no_repeats_tail, no_repeats_first, ring_of_page}

-- ---- in a ring

module _ (p : ℕ) (b : List ℕ) where
  -- an entry is p's, and the bytes are entered, or stays
  unfoldable entry_after : Entry → Entry
  entry_after e = cond (eqb (entry_page e) p) (Entry.Entered p b) e

  own_entry : (e : Entry) → entry_page e ≡ p → entry_after e ≡ Entry.Entered p b
  unfolding entry_after
  own_entry e h = rw (eq-eqb (entry_page e) p h)

  other_entry : (e : Entry) → ¬ (entry_page e ≡ p) → entry_after e ≡ e
  unfolding entry_after
  other_entry e h = rw (ne_eqb (entry_page e) p h)

  page_after : (e : Entry) → entry_page (entry_after e) ≡ entry_page e
  unfolding entry_page
  page_after e = on_eq (entry_page e) p (λ h. ap entry_page (own_entry e h) ∙ sym h) (λ h. ap entry_page (other_entry e h))

  pub pages_enter : (ring : List Entry) → pages_of (enter_in p b ring) ≡ pages_of ring
  unfolding enter_in pages_of entry_after
  pages_enter [] = refl
  pages_enter (e ∷ ring) = ap₂ {C = List ℕ} ◌∷◌ (page_after e) (pages_enter ring)

  pub in_ring_enter : (q : ℕ) (ring : List Entry) → in_ring q (enter_in p b ring) ≡ in_ring q ring
  unfolding enter_in in_ring entry_after
  in_ring_enter q [] = refl
  in_ring_enter q (e ∷ ring) = ap₂ ◌||◌ (ap (λ (x : ℕ). eqb x q) (page_after e)) (in_ring_enter q ring)

  enter_absent : (ring : List Entry) → in_ring p ring ≡ false → enter_in p b ring ≡ ring
  unfolding enter_in in_ring
  enter_absent [] h = refl
  enter_absent (e ∷ ring) h =
      rw (neither_left (eqb (entry_page e) p) (in_ring p ring) h, enter_absent ring (neither_right (eqb (entry_page e) p) (in_ring p ring) h))

  pub enter_own : (ring : List Entry) → in_ring p ring ≡ true → Memᴰ (Entry.Entered p b) (enter_in p b ring)
  unfolding enter_in in_ring entry_after
  enter_own [] h = absurd (never h refl)
  enter_own (e ∷ ring) h =
      in_ring_cases p e ring h
      (λ q. Memᴰ.head (sym (own_entry e q)))
      (λ t. Memᴰ.tail (enter_own ring t))

  pub enter_other : (e : Entry) (ring : List Entry) → Memᴰ e ring → ¬ (entry_page e ≡ p) → Memᴰ e (enter_in p b ring)
  unfolding enter_in entry_after
  enter_other e ring (Memᴰ.head {x = x} {xs = xs} h) n =
      Memᴰ.head (h ∙ sym (other_entry x (λ q. n (ap entry_page h ∙ q))))
  enter_other e ring (Memᴰ.tail {x = x} {xs = xs} m) n = Memᴰ.tail (enter_other e xs m n)

  -- an entry of the ring after: the page's, with the bytes, or an entry of another page as before
  pub enter_cases :
      (e : Entry) (ring : List Entry)
      → Memᴰ e (enter_in p b ring)
      → ((e ≡ Entry.Entered p b) × (in_ring p ring ≡ true)) ⊎ ((¬ (entry_page e ≡ p)) × Memᴰ e ring)
  unfolding enter_in entry_after in_ring
  enter_cases e [] m = absurd (Memᴰ.not-nil m)
  enter_cases e (x ∷ ring) m =
      elim (Memᴰ.cases_cons m) [
        | inl h ↦ on_eq (entry_page x) p
            (λ q. inl (h ∙ own_entry x q, rw (eq-eqb (entry_page x) p q)))
            (λ q. let s = h ∙ other_entry x q in inr (λ r. q (ap entry_page (sym s) ∙ r), Memᴰ.head s))
        | inr t ↦ elim (enter_cases e ring t) [
          | inl w ↦ inl (w.0, in_ring_behind p x ring w.1)
          | inr w ↦ inr (w.0, Memᴰ.tail w.1)
        ]
      ]

  -- ---- in the open rings

  enter_absents : (rings : List (List Entry)) → in_rings p rings ≡ false → map (enter_in p b) rings ≡ rings
  unfolding in_rings
  enter_absents [] h = refl
  enter_absents (ring ∷ rings) h =
      ap₂ {C = List (List Entry)} ◌∷◌ (enter_absent ring (neither_left (in_ring p ring) (in_rings p rings) h)) (enter_absents rings (neither_right (in_ring p ring) (in_rings p rings) h))

  pub in_rings_enter : (q : ℕ) (rings : List (List Entry)) → in_rings q (map (enter_in p b) rings) ≡ in_rings q rings
  unfolding in_rings
  in_rings_enter q [] = refl
  in_rings_enter q (ring ∷ rings) = ap₂ ◌||◌ (in_ring_enter q ring) (in_rings_enter q rings)

  pub enter_apart : (rings : List (List Entry)) → Apart rings → Apart (map (enter_in p b) rings)
  enter_apart rings Apart.none = Apart.none
  enter_apart rings (Apart.more {ring = r} {rings = rs} apart rest) =
      Apart.more (λ q e. in_rings_enter q rs ∙ apart q (sym (in_ring_enter q r) ∙ e)) (enter_apart rs rest)

  -- not all pages of p's ring have bytes: it stays open
  pub enter_open :
      (kept : ℕ → List ℕ) (rings : List (List Entry))
      → Apart rings
      → in_rings p rings ≡ true
      → all_entered (enter_in p b (ring_of p rings)) ≡ false
      → enter p b kept rings ≡ record { kept = kept; rings = map (enter_in p b) rings }
  unfolding enter settle_ring with_ring ring_of in_rings
  enter_open kept rings Apart.none i a = absurd (never i refl)
  enter_open kept rings (Apart.more {ring = r} {rings = rs} apart rest) i a =
      on_test (in_ring p r)
      (λ h. let a2 : all_entered (enter_in p b r) ≡ false = rw h at a in
      rw (h, a2) (ap (λ (l : List (List Entry)). record { kept = kept; rings = enter_in p b r ∷ l }) (sym (enter_absents rs (apart p h)))))
      (λ h. let i2 : in_rings p rs ≡ true = rw h at i in
      let a2 : all_entered (enter_in p b (ring_of p rs)) ≡ false = rw h at a in
      rw (h, enter_open kept rs rest i2 a2, enter_absent r h))

  -- all pages of p's ring have bytes: it closes, and they are kept
  pub enter_closes :
      (kept : ℕ → List ℕ) (rings : List (List Entry))
      → in_rings p rings ≡ true
      → all_entered (enter_in p b (ring_of p rings)) ≡ true
      → enter p b kept rings ≡ record { kept = keep (enter_in p b (ring_of p rings)) kept; rings = close_ring p rings }
  unfolding enter settle_ring with_ring ring_of in_rings close_ring
  enter_closes kept [] i a = absurd (never i refl)
  enter_closes kept (r ∷ rs) i a =
      on_test (in_ring p r)
      (λ h. let a2 : all_entered (enter_in p b r) ≡ true = rw h at a in rw (h, a2))
      (λ h. let i2 : in_rings p rs ≡ true = rw h at i in
      let a2 : all_entered (enter_in p b (ring_of p rs)) ≡ true = rw h at a in
      rw (h, enter_closes kept rs i2 a2))

  -- what is entered: the bytes for p, and for the other pages what was
  pub enter_entered :
      (rings : List (List Entry))
      → in_rings p rings ≡ true
      → (q : ℕ) (d : List ℕ)
      → IsEntered (map (enter_in p b) rings) q d ↔ (((q ≡ p) × (d ≡ b)) ⊎ ((¬ (q ≡ p)) × IsEntered rings q d))
  unfolding entry_page
  enter_entered rings i q d = (there, back)
    where
      there : IsEntered (map (enter_in p b) rings) q d → ((q ≡ p) × (d ≡ b)) ⊎ ((¬ (q ≡ p)) × IsEntered rings q d)
      there w =
          let r = Memᴰ.of_map (enter_in p b) rings w.1 in
          elim (enter_cases (Entry.Entered q d) r.0 (subst (λ (x : List Entry). Memᴰ (Entry.Entered q d) x) (sym r.2) w.2)) [
            | inl h ↦ (let e = h.0 in inl (cc, cc))
            | inr h ↦ inr (h.0, (r.0, r.1, h.1))
          ]

      back : ((q ≡ p) × (d ≡ b)) ⊎ ((¬ (q ≡ p)) × IsEntered rings q d) → IsEntered (map (enter_in p b) rings) q d
      back (inl h) =
          let r = ring_of_page p rings i in
          (enter_in p b (ring_of p rings), Memᴰ.map (enter_in p b) r.0, Memᴰ.cast (ap₂ Entry.Entered h.0 h.1) (enter_own (ring_of p rings) r.1))
      back (inr (n, w)) =
          (enter_in p b w.0, Memᴰ.map (enter_in p b) w.1, enter_other (Entry.Entered q d) w.0 w.2 n)

-- ---- the kept contents of a closed ring

module _ (kept : ℕ → List ℕ) (q : ℕ) where
  pub keep_other : (ring : List Entry) → in_ring q ring ≡ false → keep ring kept q ≡ kept q
  unfolding keep in_ring entry_page
  keep_other [] h = refl
  keep_other (Entry.Empty p ∷ ring) h = keep_other ring (neither_right (eqb p q) (in_ring q ring) h)
  keep_other (Entry.Entered p b ∷ ring) h = rw (neither_left (eqb p q) (in_ring q ring) h) (keep_other ring (neither_right (eqb p q) (in_ring q ring) h))

  pub keep_entered : (d : List ℕ) (ring : List Entry) → NoRepeats (pages_of ring) → Memᴰ (Entry.Entered q d) ring → keep ring kept q ≡ d
  unfolding keep pages_of entry_page
  keep_entered d [] n m = absurd (Memᴰ.not-nil m)
  keep_entered d (Entry.Empty p ∷ ring) n m =
      elim (Memᴰ.cases_cons m) [
        | inl h ↦ cc
        | inr t ↦ keep_entered d ring (no_repeats_tail p (pages_of ring) n) t
      ]
  keep_entered d (Entry.Entered p b ∷ ring) n m =
      elim (Memᴰ.cases_cons m) [
        | inl h ↦ (let e : p ≡ q = cc in let k : b ≡ d = cc in rw (eq-eqb p q e) k)
        | inr t ↦ rw (ne_eqb p q (λ e. never (entry_in_ring (Entry.Entered q d) ring t) (ap (λ (x : ℕ). in_ring x ring) (sym e) ∙ no_repeats_first (Entry.Entered p b) ring n)))
            (keep_entered d ring (no_repeats_tail p (pages_of ring) n) t)
      ]
