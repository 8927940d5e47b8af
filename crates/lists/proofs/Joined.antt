-- Two lists side by side: joined at an index, the lists back, as long as each, from the parts of one list; and lists that are related. Assumes nothing.
use mathlib.Core.Path.{◌≡◌, refl, sym, ap, ap₂}
use mathlib.Core.List.{List, [], ◌∷◌, ◌++◌, map}
use Prim.Native.Nat.{ℕ, zero, suc, ◌≤◌, ◌<◌}
use native.Mathlib.Nat.{le_of_suc-le-suc, not-suc-le-zero}
use native.Mathlib.Omega.{arith}
use lib.ListN.{length, get_or}
use Rattle.whole.proofs.Cases.{down, no_suc}
use Rattle.lists.specs.Each.{Each}
use Rattle.lists.specs.Joined.{joined, Rel}

module _ {A B C : Type 0} (f : A → B → C) where
  pub joined_at : (xs : List A) (ys : List B) (i : ℕ) (a : A) (b : B) → i < length xs → i < length ys
      → get_or (joined f xs ys) i (f a b) ≡ f (get_or xs i a) (get_or ys i b)
  joined_at [] ys i a b p q = absurd (not-suc-le-zero p)
  joined_at (x ∷ xs) [] i a b p q = absurd (not-suc-le-zero q)
  joined_at (x ∷ xs) (y ∷ ys) zero a b p q = refl
  joined_at (x ∷ xs) (y ∷ ys) (suc i) a b p q = joined_at xs ys i a b (le_of_suc-le-suc p) (le_of_suc-le-suc q)

  pub joined_inside : (xs : List A) (ys : List B) (i : ℕ) → i < length xs → i < length ys → i < length (joined f xs ys)
  joined_inside [] ys i p q = absurd (not-suc-le-zero p)
  joined_inside (x ∷ xs) [] i p q = absurd (not-suc-le-zero q)
  joined_inside (x ∷ xs) (y ∷ ys) zero p q = omega arith
  joined_inside (x ∷ xs) (y ∷ ys) (suc i) p q =
      let r = joined_inside xs ys i (le_of_suc-le-suc p) (le_of_suc-le-suc q) in omega (arith, r)

  pub joined_long : (xs : List A) (ys : List B) → length xs ≡ length ys → length (joined f xs ys) ≡ length xs
  joined_long [] ys e = refl
  joined_long (x ∷ xs) [] e = absurd (no_suc (sym e))
  joined_long (x ∷ xs) (y ∷ ys) e = ap suc (joined_long xs ys (down e))

  pub joined_first : (g : C → A) → ((a : A) (b : B) → g (f a b) ≡ a) → (xs : List A) (ys : List B) → length xs ≡ length ys
      → map g (joined f xs ys) ≡ xs
  joined_first g p [] ys e = refl
  joined_first g p (x ∷ xs) [] e = absurd (no_suc (sym e))
  joined_first g p (x ∷ xs) (y ∷ ys) e = ap₂ ◌∷◌ (p x y) (joined_first g p xs ys (down e))

  pub joined_second : {D : Type 0} (g : C → D) (h : B → D) → ((a : A) (b : B) → g (f a b) ≡ h b) → (xs : List A) (ys : List B)
      → length xs ≡ length ys → map g (joined f xs ys) ≡ map h ys
  joined_second g h p [] [] e = refl
  joined_second g h p [] (y ∷ ys) e = absurd (no_suc e)
  joined_second g h p (x ∷ xs) [] e = absurd (no_suc (sym e))
  joined_second g h p (x ∷ xs) (y ∷ ys) e = ap₂ ◌∷◌ (p x y) (joined_second g h p xs ys (down e))

  pub joined_parts : {E : Type 0} (g : E → A) (h : E → B) (vs : List E) → joined f (map g vs) (map h vs) ≡ map (λ v. f (g v) (h v)) vs
  joined_parts g h [] = refl
  joined_parts g h (v ∷ vs) = ap (λ l. f (g v) (h v) ∷ l) (joined_parts g h vs)

module _ {A B : Type 0} {R : A → B → Type 0} where
  pub rel_at : {vs : List A} {ws : List B} → Rel R vs ws → (i : ℕ) (d : A) (e : B) → i < length vs → R (get_or vs i d) (get_or ws i e)
  rel_at Rel.none i d e l = absurd (not-suc-le-zero l)
  rel_at (Rel.one r rs) zero d e l = r
  rel_at (Rel.one r rs) (suc i) d e l = rel_at rs i d e (le_of_suc-le-suc l)

  pub rel_behind : {vs : List A} {ws : List B} {v : A} {w : B} → Rel R vs ws → R v w → Rel R (vs ++ v ∷ []) (ws ++ w ∷ [])
  rel_behind Rel.none r = Rel.one r Rel.none
  rel_behind (Rel.one q rs) r = Rel.one q (rel_behind rs r)

  pub rel_length : {vs : List A} {ws : List B} → Rel R vs ws → length vs ≡ length ws
  rel_length Rel.none = refl
  rel_length (Rel.one r rs) = ap suc (rel_length rs)

  -- outputs picked out of related lists are related
  pub rel_picked : {vs : List A} {ws : List B} (d : A) (e : B) {n v : ℕ} {os : List ℕ} → Rel R vs ws → Each (λ j o. o < n) v os → n ≤ length vs
      → Rel R (map (λ o. get_or vs o d) os) (map (λ o. get_or ws o e) os)
  rel_picked d e r Each.none l = Rel.none
  rel_picked d e r (Each.one {a = o} p ps) l = Rel.one (rel_at r o d e (omega arith)) (rel_picked d e r ps l)
