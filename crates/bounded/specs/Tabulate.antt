-- A table of n numbers in an array: entry i is f i.
use Rattle.std.specs.Prelude.{ℕ, ◌+◌, ◌*◌, ◌≤◌, ◌<◌, max, ◌≡◌, refl, List, [], ◌∷◌, cond, eqb, length, get_or, set, replicate}
use Rattle.std.proofs.Common.{arith, sym, ap, ◌∙◌, eq-eqb, ne_eqb, length-set, ext_get_or, get_or-set_same, get_or-set_other}
use Rattle.std.proofs.lemmas.List.{length-replicate, get_or-replicate}
use Rattle.bounded.specs.Choice.{on_lt, on_eq}
use Rattle.bounded.specs.Parts.{join_parts}
use Rattle.bounded.specs.PartsLaws.{length_join_parts, part_join_parts, part_at}
use Rattle.bounded.specs.Entries.{stored, stored_length, stored_at, stored_after}

-- f 0 to f (n − 1)
unfoldable pub tabulate : ℕ → (ℕ → ℕ) → List ℕ
tabulate n f = join_parts n (λ i. f i ∷ [])

pub length_tabulate : (n : ℕ) (f : ℕ → ℕ) → length (tabulate n f) ≡ n
unfolding tabulate
length_tabulate n f = let e = length_join_parts 1 n (λ i. f i ∷ []) (λ k. refl) in omega arith

pub tabulate_at : (n : ℕ) (f : ℕ → ℕ) (i : ℕ) → i < n → get_or (tabulate n f) i 0 ≡ f i
unfolding tabulate
tabulate_at n f i h =
    ap (λ (x : ℕ). get_or (join_parts n (λ i. f i ∷ [])) x 0) (let e : i ≡ 1 * i + 0 = omega arith in e)
    ∙ sym (part_at 1 i (join_parts n (λ i. f i ∷ [])) 0 0 (omega arith))
    ∙ ap (λ (l : List ℕ). get_or l 0 0) (part_join_parts 1 n i (λ i. f i ∷ []) (λ k. refl) h)

-- a list of n numbers is the table of its entries
pub tabulated : (n : ℕ) (f : ℕ → ℕ) (l : List ℕ) → length l ≡ n → ((i : ℕ) → i < n → get_or l i 0 ≡ f i) → l ≡ tabulate n f
tabulated n f l e h =
    let g = length_tabulate n f in
    ext_get_or 0 l (tabulate n f) (e ∙ sym g) (λ i b. h i (omega arith) ∙ sym (tabulate_at n f i (omega arith)))

pub tabulate_cong : (n : ℕ) (f g : ℕ → ℕ) → ((i : ℕ) → i < n → f i ≡ g i) → tabulate n f ≡ tabulate n g
tabulate_cong n f g h = tabulated n g (tabulate n f) (length_tabulate n f) (λ i b. tabulate_at n f i b ∙ h i b)

-- the same number at each entry
pub tabulate_same : (n x : ℕ) (f : ℕ → ℕ) → ((i : ℕ) → i < n → f i ≡ x) → replicate n x ≡ tabulate n f
tabulate_same n x f h =
    tabulated n f (replicate n x) (length-replicate n x) (λ i b. get_or-replicate n i x 0 b ∙ sym (h i b))

-- one entry stored: the table of g, which is f but at k
pub set_tabulate : (n k x : ℕ) (f g : ℕ → ℕ) → k < n → x ≡ g k → ((i : ℕ) → i < n → ¬ (i ≡ k) → f i ≡ g i) → set (tabulate n f) k x ≡ tabulate n g
set_tabulate n k x f g h e other =
    let l = length_tabulate n f in
    tabulated n g (set (tabulate n f) k x) (length-set (tabulate n f) k x ∙ l)
    (λ i b. on_eq i k
    (λ q. ap (λ (j : ℕ). get_or (set (tabulate n f) k x) j 0) q ∙ get_or-set_same (tabulate n f) k x 0 (omega arith) ∙ e ∙ ap g (sym q))
    (λ d. get_or-set_other (tabulate n f) k i x 0 d ∙ tabulate_at n f i b ∙ other i b d))

-- ---- a table stored entry by entry over n times d

-- below k the entries are f's, from k on they are d
pub tabulated_stored : (n : ℕ) (f : ℕ → ℕ) (d k : ℕ) → k ≤ n → ((i : ℕ) → k ≤ i → i < n → f i ≡ d) → stored f k (replicate n d) ≡ tabulate n f
tabulated_stored n f d k m h =
    let e = length-replicate n d in
    tabulated n f (stored f k (replicate n d)) (stored_length f (replicate n d) k ∙ e)
    (λ i b. on_lt i k
    (λ l. stored_at f (replicate n d) k (omega arith) i l)
    (λ l. stored_after f (replicate n d) k i l ∙ get_or-replicate n i d 0 b ∙ sym (h i l b)))

-- ---- an entry raised

pub raise_tabulate : (n p x : ℕ) (f : ℕ → ℕ) → p < n → set (tabulate n f) p (max (get_or (tabulate n f) p 0) x) ≡ tabulate n (λ i. max (f i) (cond (eqb p i) x 0))
raise_tabulate n p x f h =
    set_tabulate n p (max (get_or (tabulate n f) p 0) x) f (λ i. max (f i) (cond (eqb p i) x 0)) h
    (rw (tabulate_at n f p h, eq-eqb p p refl))
    (λ i b d. rw (ne_eqb p i (λ e. d (sym e))) (let m : f i ≡ max (f i) 0 = omega arith in m))
