-- Pages and entries of rings, and the ring of a page: laws of the lists alone.
use Rattle.std.specs.Prelude.{ℕ, zero, suc, ◌<◌, ◌≡◌, refl, ◌⊎◌, true, eqb, length, get_or}
use Rattle.std.proofs.Common.{arith, sym, ap, ◌∙◌, subst, inl, inr, eqb-true, eq-eqb}
use mathlib.Core.List.{List, [], ◌∷◌, ◌++◌, Memᴰ}
use Rattle.std.proofs.Math.Bool.{false}
use Rattle.bounded.specs.Choice.{on_test, never, both, both_left, both_right, either, either_left, either_right, neither_left, neither_right}
use Rattle.atomicity.specs.Model.{Entry, entry_page, has_bytes, in_ring, all_entered, close_ring}
use Rattle.atomicity.specs.rings.Match.{pages_of, in_rings, ring_of, IsEntered, NoRepeats, Apart}

-- ---- a page in a ring

-- it is the first entry's, or stands behind
pub in_ring_cases {ℓ} :
    {C : Type ℓ} (p : ℕ) (x : Entry) (ring : List Entry)
    → in_ring p (x ∷ ring) ≡ true
    → (entry_page x ≡ p → C)
    → (in_ring p ring ≡ true → C)
    → C
unfolding in_ring
in_ring_cases p x ring e f g =
    elim (either (eqb (entry_page x) p) (in_ring p ring) e) [ inl h ↦ f (eqb-true (entry_page x) p h) | inr h ↦ g h ]

in_ring_first : (p : ℕ) (x : Entry) (ring : List Entry) → entry_page x ≡ p → in_ring p (x ∷ ring) ≡ true
unfolding in_ring
in_ring_first p x ring e = either_left (in_ring p ring) (eq-eqb (entry_page x) p e)

pub in_ring_behind : (p : ℕ) (x : Entry) (ring : List Entry) → in_ring p ring ≡ true → in_ring p (x ∷ ring) ≡ true
unfolding in_ring
in_ring_behind p x ring e = either_right (eqb (entry_page x) p) e

pub in_ring_place : (p : ℕ) (ring : List Entry) → in_ring p ring ≡ true → (i : ℕ) × (i < length (pages_of ring)) × (get_or (pages_of ring) i 0 ≡ p)
unfolding in_ring pages_of
in_ring_place p [] e = absurd (never e refl)
in_ring_place p (x ∷ ring) e =
    in_ring_cases p x ring e
    (λ h. (0, omega arith, h))
    (λ h. let w = in_ring_place p ring h in (suc w.0, (let l = w.1 in omega arith), w.2))

pub place_in_ring : (p : ℕ) (ring : List Entry) (i : ℕ) → i < length (pages_of ring) → get_or (pages_of ring) i 0 ≡ p → in_ring p ring ≡ true
unfolding pages_of
place_in_ring p [] i l e = absurd (omega arith)
place_in_ring p (x ∷ ring) zero l e = in_ring_first p x ring e
place_in_ring p (x ∷ ring) (suc i) l e = in_ring_behind p x ring (place_in_ring p ring i (omega arith) e)

pub in_ring_entry : (p : ℕ) (ring : List Entry) → in_ring p ring ≡ true → (e : Entry) × Memᴰ e ring × (entry_page e ≡ p)
unfolding in_ring
in_ring_entry p [] h = absurd (never h refl)
in_ring_entry p (x ∷ ring) h =
    in_ring_cases p x ring h
    (λ e. (x, mathlib.Core.List.Memᴰ.head refl, e))
    (λ t. let w = in_ring_entry p ring t in (w.0, mathlib.Core.List.Memᴰ.tail w.1, w.2))

pub entry_in_ring : (e : Entry) (ring : List Entry) → Memᴰ e ring → in_ring (entry_page e) ring ≡ true
entry_in_ring e ring (mathlib.Core.List.Memᴰ.head {x = x} {xs = xs} h) = in_ring_first (entry_page e) x xs (ap entry_page (sym h))
entry_in_ring e ring (mathlib.Core.List.Memᴰ.tail {x = x} {xs = xs} m) = in_ring_behind (entry_page e) x xs (entry_in_ring e xs m)

-- ---- a ring without repeats

pub no_repeats_tail : (p : ℕ) (pages : List ℕ) → NoRepeats (p ∷ pages) → NoRepeats pages
no_repeats_tail p pages n i j l h = n (suc i) (suc j) (omega arith) (omega arith)

pub no_repeats_first : (x : Entry) (ring : List Entry) → NoRepeats (pages_of (x ∷ ring)) → in_ring (entry_page x) ring ≡ false
unfolding pages_of
no_repeats_first x ring n =
    on_test (in_ring (entry_page x) ring)
    (λ e. let w = in_ring_place (entry_page x) ring e in
    absurd (n 0 (suc w.0) (omega arith) (let l = w.1 in omega arith) (sym w.2)))
    (λ e. e)

-- ---- all_entered is "each entry has bytes"

pub all_entered_at : (ring : List Entry) → all_entered ring ≡ true → (e : Entry) → Memᴰ e ring → has_bytes e ≡ true
unfolding all_entered
all_entered_at [] a e m = absurd (mathlib.Core.List.Memᴰ.not-nil m)
all_entered_at (x ∷ ring) a e m = elim (mathlib.Core.List.Memᴰ.cases_cons m) [
  | inl h ↦ ap has_bytes h ∙ both_left (has_bytes x) (all_entered ring) a
  | inr t ↦ all_entered_at ring (both_right (has_bytes x) (all_entered ring) a) e t
]

pub all_entered_of : (ring : List Entry) → ((e : Entry) → Memᴰ e ring → has_bytes e ≡ true) → all_entered ring ≡ true
unfolding all_entered
all_entered_of [] h = refl
all_entered_of (x ∷ ring) h = both (h x (mathlib.Core.List.Memᴰ.head refl)) (all_entered_of ring (λ e m. h e (mathlib.Core.List.Memᴰ.tail m)))

-- ---- a ring behind others

module _ (last : List Entry) where
  pub ring_before : (ring : List Entry) (rings : List (List Entry)) → Memᴰ ring rings → Memᴰ ring (rings ++ last ∷ [])
  ring_before ring rings (mathlib.Core.List.Memᴰ.head {x = r} {xs = rs} h) = mathlib.Core.List.Memᴰ.head h
  ring_before ring rings (mathlib.Core.List.Memᴰ.tail {x = r} {xs = rs} m) = mathlib.Core.List.Memᴰ.tail (ring_before ring rs m)

  pub before_or_last : (ring : List Entry) (rings : List (List Entry)) → Memᴰ ring (rings ++ last ∷ []) → Memᴰ ring rings ⊎ (ring ≡ last)
  before_or_last ring [] m = elim (mathlib.Core.List.Memᴰ.cases_cons m) [ inl e ↦ inr e | inr t ↦ absurd (mathlib.Core.List.Memᴰ.not-nil t) ]
  before_or_last ring (r ∷ rings) m = elim (mathlib.Core.List.Memᴰ.cases_cons m) [
    | inl e ↦ inl (mathlib.Core.List.Memᴰ.head e)
    | inr t ↦ elim (before_or_last ring rings t) [ inl u ↦ inl (mathlib.Core.List.Memᴰ.tail u) | inr e ↦ inr e ]
  ]

  pub in_rings_before : (p : ℕ) (rings : List (List Entry)) → in_rings p rings ≡ true → in_rings p (rings ++ last ∷ []) ≡ true
  unfolding in_rings
  in_rings_before p [] e = absurd (never e refl)
  in_rings_before p (r ∷ rings) e =
      on_test (in_ring p r)
      (λ h. either_left (in_rings p (rings ++ last ∷ [])) h)
      (λ h. either_right (in_ring p r) (in_rings_before p rings (rw h at e)))

  pub in_rings_last : (p : ℕ) (rings : List (List Entry)) → in_ring p last ≡ true → in_rings p (rings ++ last ∷ []) ≡ true
  unfolding in_rings
  in_rings_last p [] e = either_left false e
  in_rings_last p (r ∷ rings) e = either_right (in_ring p r) (in_rings_last p rings e)

  not_in_rings : (p : ℕ) (rings : List (List Entry)) → in_rings p rings ≡ false → in_ring p last ≡ false → in_rings p (rings ++ last ∷ []) ≡ false
  unfolding in_rings
  not_in_rings p [] e h = rw h
  not_in_rings p (r ∷ rings) e h =
      rw (neither_left (in_ring p r) (in_rings p rings) e, not_in_rings p rings (neither_right (in_ring p r) (in_rings p rings) e) h)

  -- a ring none of whose pages stands in the others is apart from them
  pub apart_last : (rings : List (List Entry)) → ((p : ℕ) → in_ring p last ≡ true → in_rings p rings ≡ false) → Apart rings → Apart (rings ++ last ∷ [])
  unfolding in_rings
  apart_last rings new Apart.none = Apart.more (λ p e. refl) Apart.none
  apart_last rings new (Apart.more {ring = r} {rings = rs} a rest) =
      Apart.more
      (λ p e. not_in_rings p rs (a p e) (on_test (in_ring p last) (λ h. absurd (never e (neither_left (in_ring p r) (in_rings p rs) (new p h)))) (λ h. h)))
      (apart_last rs (λ p h. neither_right (in_ring p r) (in_rings p rs) (new p h)) rest)

-- ---- the ring of a page

pub ring_in_rings : (p : ℕ) (ring : List Entry) (rings : List (List Entry)) → Memᴰ ring rings → in_ring p ring ≡ true → in_rings p rings ≡ true
unfolding in_rings
ring_in_rings p ring rings (mathlib.Core.List.Memᴰ.head {x = r} {xs = rs} h) e = either_left (in_rings p rs) (ap (in_ring p) (sym h) ∙ e)
ring_in_rings p ring rings (mathlib.Core.List.Memᴰ.tail {x = r} {xs = rs} m) e = either_right (in_ring p r) (ring_in_rings p ring rs m e)

-- it is an open ring and has the page
pub ring_of_page :
    (p : ℕ) (rings : List (List Entry))
    → in_rings p rings ≡ true
    → Memᴰ (ring_of p rings) rings × (in_ring p (ring_of p rings) ≡ true)
unfolding in_rings ring_of
ring_of_page p [] e = absurd (never e refl)
ring_of_page p (ring ∷ rings) e =
    on_test (in_ring p ring)
    (λ h. rw h (mathlib.Core.List.Memᴰ.head refl, h))
    (λ h. let w = ring_of_page p rings (rw h at e) in rw h (mathlib.Core.List.Memᴰ.tail w.0, w.1))

-- … the only one
pub ring_of_only :
    (p : ℕ) (ring : List Entry) (rings : List (List Entry))
    → Apart rings
    → Memᴰ ring rings
    → in_ring p ring ≡ true
    → ring_of p rings ≡ ring
unfolding ring_of
ring_of_only p ring _ Apart.none m e = elim m [ ]
ring_of_only p ring rings (Apart.more {ring = r} {rings = rs} a rest) (mathlib.Core.List.Memᴰ.head h) e =
    rw (ap (in_ring p) (sym h) ∙ e) (sym h)
ring_of_only p ring rings (Apart.more {ring = r} {rings = rs} a rest) (mathlib.Core.List.Memᴰ.tail m) e =
    on_test (in_ring p r)
    (λ h. absurd (never (ring_in_rings p ring rs m e) (a p h)))
    (λ h. rw h (ring_of_only p ring rs rest m e))

-- bytes entered for a page of p's ring are entered in that ring
pub entered_in_ring :
    (p q : ℕ) (d : List ℕ) (rings : List (List Entry))
    → Apart rings
    → in_rings p rings ≡ true
    → in_ring q (ring_of p rings) ≡ true
    → IsEntered rings q d
    → Memᴰ (Entry.Entered q d) (ring_of p rings)
unfolding entry_page
entered_in_ring p q d rings a e h w =
    let own = ring_of_only q w.0 rings a w.1 (entry_in_ring (Entry.Entered q d) w.0 w.2) in
    let same = ring_of_only q (ring_of p rings) rings a (ring_of_page p rings e).0 h in
    subst (λ (r : List Entry). Memᴰ (Entry.Entered q d) r) (sym own ∙ same) w.2

-- ---- the page's ring closes

pub close_among : (p : ℕ) (ring : List Entry) (rings : List (List Entry)) → Memᴰ ring (close_ring p rings) → Memᴰ ring rings
unfolding close_ring
close_among p ring [] m = m
close_among p ring (r ∷ rings) m =
    on_test (in_ring p r)
    (λ h. mathlib.Core.List.Memᴰ.tail (rw h at m))
    (λ h. let t : Memᴰ ring (r ∷ close_ring p rings) = rw h at m in
    elim (mathlib.Core.List.Memᴰ.cases_cons t) [ inl e ↦ mathlib.Core.List.Memᴰ.head e | inr k ↦ mathlib.Core.List.Memᴰ.tail (close_among p ring rings k) ])

-- each other ring stays open
pub close_keeps :
    (p : ℕ) (ring : List Entry) (rings : List (List Entry))
    → Memᴰ ring rings
    → in_ring p ring ≡ false
    → Memᴰ ring (close_ring p rings)
unfolding close_ring
close_keeps p ring rings (mathlib.Core.List.Memᴰ.head {x = r} {xs = rs} h) e = rw (ap (in_ring p) (sym h) ∙ e) (mathlib.Core.List.Memᴰ.head h)
close_keeps p ring rings (mathlib.Core.List.Memᴰ.tail {x = r} {xs = rs} m) e =
    on_test (in_ring p r)
    (λ h. rw h m)
    (λ h. rw h (mathlib.Core.List.Memᴰ.tail (close_keeps p ring rs m e)))

in_rings_close : (q p : ℕ) (rings : List (List Entry)) → in_rings q rings ≡ false → in_rings q (close_ring p rings) ≡ false
in_rings_close q p rings e =
    on_test (in_rings q (close_ring p rings))
    (λ h. let w = ring_of_page q (close_ring p rings) h in
    let r = ring_of q (close_ring p rings) in
    absurd (never (ring_in_rings q r rings (close_among p r rings w.0) w.1) e))
    (λ h. h)

-- no ring that stays open has a page of the one that closed
pub close_clears :
    (p q : ℕ) (rings : List (List Entry))
    → Apart rings
    → in_rings p rings ≡ true
    → in_ring q (ring_of p rings) ≡ true
    → in_rings q (close_ring p rings) ≡ false
unfolding close_ring ring_of in_rings
close_clears p q rings Apart.none i e = refl
close_clears p q rings (Apart.more {ring = r} {rings = rs} a rest) i e =
    on_test (in_ring p r)
    (λ h. rw h (a q (rw h at e)))
    (λ h. let i2 : in_rings p rs ≡ true = rw h at i in
    let e2 : in_ring q (ring_of p rs) ≡ true = rw h at e in
    rw h (on_test (in_ring q r)
    (λ t. absurd (never (ring_in_rings q (ring_of p rs) rs (ring_of_page p rs i2).0 e2) (a q t)))
    (λ t. rw (t, close_clears p q rs rest i2 e2))))

pub close_apart : (p : ℕ) (rings : List (List Entry)) → Apart rings → Apart (close_ring p rings)
unfolding close_ring
close_apart p rings Apart.none = Apart.none
close_apart p rings (Apart.more {ring = r} {rings = rs} a rest) =
    on_test (in_ring p r)
    (λ h. rw h rest)
    (λ h. rw h (Apart.more (λ q e. in_rings_close q p rs (a q e)) (close_apart p rs rest)))
