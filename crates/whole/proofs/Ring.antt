-- A prover of identities in ℤ: an expression over numbered variables has a polynomial normal form that antt computes, and two expressions
-- with the same normal form are equal at all values of the variables. Assumes nothing.
use mathlib.Core.Path.{◌≡◌, refl, sym, ◌∙◌, ap, ap₂}
use mathlib.Core.Bool.{Bool, true, false, cond}
use mathlib.Core.List.{List, [], ◌∷◌}
use Prim.Native.Nat.{ℕ, zero, suc}
use lib.Dec.{T, ltb, eqb, eqb→eq}
use lib.IntN.{ℤ, pos, negsuc, neg_ℤ, ◌+ℤ◌, ◌*ℤ◌, +ℤ_assoc, +ℤ_comm, +ℤ_idl, +ℤ_idr, zero-*ℤ, *ℤ-zero, *ℤ_comm}
use lib.ListN.{get_or}
use Rattle.whole.proofs.Laws.{add_mulℤ, mul_addℤ, neg_mulℤ, mul_assocℤ, mul_oneℤ, one_mulℤ}

infixl 6 ◌⊕◌ ◌⊖◌
infixl 7 ◌⊗◌
pub data Expr : Type 0 where
  var : ℕ → Expr
  lit : ℤ → Expr
  neg : Expr → Expr
  ◌⊕◌ : Expr → Expr → Expr
  ◌⊗◌ : Expr → Expr → Expr

abbrev pub ◌⊖◌ : Expr → Expr → Expr
a ⊖ b = a ⊕ neg b

-- what an expression is worth where variable i is worth the i-th value
abbrev pub worth : List ℤ → Expr → ℤ
worth ρ (var i) = get_or ρ i (pos 0)
worth ρ (lit z) = z
worth ρ (neg a) = neg_ℤ (worth ρ a)
worth ρ (a ⊕ b) = worth ρ a +ℤ worth ρ b
worth ρ (a ⊗ b) = worth ρ a *ℤ worth ρ b

-- ---- the normal form: terms in a fixed order, each a coefficient and the variables it multiplies, those in order too

pub record Term : Type 0 where
  pub by : ℤ
  pub vars : List ℕ

abbrev pub same : List ℕ → List ℕ → Bool
same [] [] = true
same [] (w ∷ m) = false
same (i ∷ k) [] = false
same (i ∷ k) (w ∷ m) = cond (eqb i w) (same k m) false

abbrev pub earlier : List ℕ → List ℕ → Bool
earlier [] [] = false
earlier [] (w ∷ m) = true
earlier (i ∷ k) [] = false
earlier (i ∷ k) (w ∷ m) = cond (ltb i w) true (cond (eqb i w) (earlier k m) false)

-- one more variable, in its place
abbrev pub with_var : ℕ → List ℕ → List ℕ
with_var i [] = i ∷ []
with_var i (w ∷ m) = cond (ltb i w) (i ∷ w ∷ m) (w ∷ with_var i m)

abbrev pub with_vars : List ℕ → List ℕ → List ℕ
with_vars [] m = m
with_vars (i ∷ k) m = with_var i (with_vars k m)

-- a term in front, unless its coefficient is 0
abbrev pub put : ℤ → List ℕ → List Term → List Term
put (pos zero) m p = p
put (pos (suc n)) m p = record { by = pos (suc n); vars = m } ∷ p
put (negsuc n) m p = record { by = negsuc n; vars = m } ∷ p

-- one more term, joined to the one with the same variables
abbrev pub with_term : ℤ → List ℕ → List Term → List Term
with_term z m [] = put z m []
with_term z m (t ∷ p) =
    cond (same m t.vars) (put (z +ℤ t.by) m p) (cond (earlier m t.vars) (put z m (t ∷ p)) (t ∷ with_term z m p))

abbrev pub sum : List Term → List Term → List Term
sum [] q = q
sum (t ∷ p) q = with_term t.by t.vars (sum p q)

-- each term of q times z and the variables m, added to r
abbrev pub scaled : ℤ → List ℕ → List Term → List Term → List Term
scaled z m [] r = r
scaled z m (t ∷ q) r = with_term (z *ℤ t.by) (with_vars m t.vars) (scaled z m q r)

abbrev pub product : List Term → List Term → List Term
product [] q = []
product (t ∷ p) q = scaled t.by t.vars q (product p q)

abbrev pub minus_one : ℤ
minus_one = negsuc 0

abbrev pub normal : Expr → List Term
normal (var i) = record { by = pos 1; vars = i ∷ [] } ∷ []
normal (lit z) = put z [] []
normal (neg a) = scaled minus_one [] (normal a) []
normal (a ⊕ b) = sum (normal a) (normal b)
normal (a ⊗ b) = product (normal a) (normal b)

-- ---- it is worth what the expression is worth

module _ (ρ : List ℤ) where
  abbrev vars_worth : List ℕ → ℤ
  vars_worth [] = pos 1
  vars_worth (i ∷ m) = get_or ρ i (pos 0) *ℤ vars_worth m

  abbrev terms_worth : List Term → ℤ
  terms_worth [] = pos 0
  terms_worth (t ∷ p) = t.by *ℤ vars_worth t.vars +ℤ terms_worth p

  -- what is chosen by a test is worth z, where both choices are
  either : {A : Type 0} (g : A → ℤ) (b : Bool) (x y : A) {z : ℤ} → (T b → g x ≡ z) → g y ≡ z → g (cond b x y) ≡ z
  either g true x y p q = p tt
  either g false x y p q = q

  same_worth : (k m : List ℕ) → T (same k m) → vars_worth k ≡ vars_worth m
  same_worth [] [] t = refl
  same_worth [] (w ∷ m) t = absurd t
  same_worth (i ∷ k) [] t = absurd t
  same_worth (i ∷ k) (w ∷ m) t = split (eqb i w) (eqb→eq i w) (same_worth k m) t
    where
      split : (b : Bool) → (T b → i ≡ w) → (T (same k m) → vars_worth k ≡ vars_worth m) → T (cond b (same k m) false) → vars_worth (i ∷ k) ≡ vars_worth (w ∷ m)
      split true e rest t = ap₂ (λ (n : ℕ) (x : ℤ). get_or ρ n (pos 0) *ℤ x) (e tt) (rest t)
      split false e rest t = absurd t

  swap_left : (a b c : ℤ) → a *ℤ (b *ℤ c) ≡ b *ℤ (a *ℤ c)
  swap_left a b c = sym (mul_assocℤ a b c) ∙ ap (λ (x : ℤ). x *ℤ c) (*ℤ_comm a b) ∙ mul_assocℤ b a c

  with_var_worth : (i : ℕ) (m : List ℕ) → vars_worth (with_var i m) ≡ get_or ρ i (pos 0) *ℤ vars_worth m
  with_var_worth i [] = refl
  with_var_worth i (w ∷ m) =
      either vars_worth (ltb i w) (i ∷ w ∷ m) (w ∷ with_var i m) (λ t. refl)
      (ap (λ (x : ℤ). get_or ρ w (pos 0) *ℤ x) (with_var_worth i m) ∙ swap_left (get_or ρ w (pos 0)) (get_or ρ i (pos 0)) (vars_worth m))

  with_vars_worth : (k m : List ℕ) → vars_worth (with_vars k m) ≡ vars_worth k *ℤ vars_worth m
  with_vars_worth [] m = sym (one_mulℤ (vars_worth m))
  with_vars_worth (i ∷ k) m =
      with_var_worth i (with_vars k m)
      ∙ ap (λ (x : ℤ). get_or ρ i (pos 0) *ℤ x) (with_vars_worth k m)
      ∙ sym (mul_assocℤ (get_or ρ i (pos 0)) (vars_worth k) (vars_worth m))

  put_worth : (z : ℤ) (m : List ℕ) (p : List Term) → terms_worth (put z m p) ≡ z *ℤ vars_worth m +ℤ terms_worth p
  put_worth (pos zero) m p = sym (ap (λ (x : ℤ). x +ℤ terms_worth p) (zero-*ℤ (vars_worth m)) ∙ +ℤ_idl (terms_worth p))
  put_worth (pos (suc n)) m p = refl
  put_worth (negsuc n) m p = refl

  add_swap : (a b c : ℤ) → a +ℤ (b +ℤ c) ≡ b +ℤ (a +ℤ c)
  add_swap a b c = sym (+ℤ_assoc a b c) ∙ ap (λ (x : ℤ). x +ℤ c) (+ℤ_comm a b) ∙ +ℤ_assoc b a c

  with_term_worth : (z : ℤ) (m : List ℕ) (p : List Term) → terms_worth (with_term z m p) ≡ z *ℤ vars_worth m +ℤ terms_worth p
  with_term_worth z m [] = put_worth z m []
  with_term_worth z m (t ∷ p) =
      either terms_worth (same m t.vars) (put (z +ℤ t.by) m p) (cond (earlier m t.vars) (put z m (t ∷ p)) (t ∷ with_term z m p))
      joined
      (either terms_worth (earlier m t.vars) (put z m (t ∷ p)) (t ∷ with_term z m p) (λ u. put_worth z m (t ∷ p)) (later (with_term_worth z m p)))
    where
      joined : T (same m t.vars) → terms_worth (put (z +ℤ t.by) m p) ≡ z *ℤ vars_worth m +ℤ terms_worth (t ∷ p)
      joined u =
          put_worth (z +ℤ t.by) m p
          ∙ ap (λ (x : ℤ). x +ℤ terms_worth p) (add_mulℤ z t.by (vars_worth m))
          ∙ +ℤ_assoc (z *ℤ vars_worth m) (t.by *ℤ vars_worth m) (terms_worth p)
          ∙ ap (λ (x : ℤ). z *ℤ vars_worth m +ℤ (t.by *ℤ x +ℤ terms_worth p)) (same_worth m t.vars u)

      later : terms_worth (with_term z m p) ≡ z *ℤ vars_worth m +ℤ terms_worth p → terms_worth (t ∷ with_term z m p) ≡ z *ℤ vars_worth m +ℤ terms_worth (t ∷ p)
      later rest =
          ap (λ (x : ℤ). t.by *ℤ vars_worth t.vars +ℤ x) rest
          ∙ add_swap (t.by *ℤ vars_worth t.vars) (z *ℤ vars_worth m) (terms_worth p)

  sum_worth : (p q : List Term) → terms_worth (sum p q) ≡ terms_worth p +ℤ terms_worth q
  sum_worth [] q = sym (+ℤ_idl (terms_worth q))
  sum_worth (t ∷ p) q =
      with_term_worth t.by t.vars (sum p q)
      ∙ ap (λ (x : ℤ). t.by *ℤ vars_worth t.vars +ℤ x) (sum_worth p q)
      ∙ sym (+ℤ_assoc (t.by *ℤ vars_worth t.vars) (terms_worth p) (terms_worth q))

  -- (z·b)·(m·v) is (z·m)·(b·v)
  cross : (z b m w : ℤ) → (z *ℤ b) *ℤ (m *ℤ w) ≡ (z *ℤ m) *ℤ (b *ℤ w)
  cross z b m w =
      mul_assocℤ z b (m *ℤ w) ∙ ap (λ (x : ℤ). z *ℤ x) (swap_left b m w) ∙ sym (mul_assocℤ z m (b *ℤ w))

  scaled_worth : (z : ℤ) (m : List ℕ) (q r : List Term) → terms_worth (scaled z m q r) ≡ (z *ℤ vars_worth m) *ℤ terms_worth q +ℤ terms_worth r
  scaled_worth z m [] r =
      sym (ap (λ (x : ℤ). x +ℤ terms_worth r) (*ℤ-zero (z *ℤ vars_worth m)) ∙ +ℤ_idl (terms_worth r))
  scaled_worth z m (t ∷ q) r =
      with_term_worth (z *ℤ t.by) (with_vars m t.vars) (scaled z m q r)
      ∙ ap₂ (λ (x y : ℤ). (z *ℤ t.by) *ℤ x +ℤ y) (with_vars_worth m t.vars) (scaled_worth z m q r)
      ∙ ap (λ (x : ℤ). x +ℤ ((z *ℤ vars_worth m) *ℤ terms_worth q +ℤ terms_worth r)) (cross z t.by (vars_worth m) (vars_worth t.vars))
      ∙ sym (+ℤ_assoc ((z *ℤ vars_worth m) *ℤ (t.by *ℤ vars_worth t.vars)) ((z *ℤ vars_worth m) *ℤ terms_worth q) (terms_worth r))
      ∙ ap (λ (x : ℤ). x +ℤ terms_worth r) (sym (mul_addℤ (z *ℤ vars_worth m) (t.by *ℤ vars_worth t.vars) (terms_worth q)))

  product_worth : (p q : List Term) → terms_worth (product p q) ≡ terms_worth p *ℤ terms_worth q
  product_worth [] q = sym (zero-*ℤ (terms_worth q))
  product_worth (t ∷ p) q =
      scaled_worth t.by t.vars q (product p q)
      ∙ ap (λ (x : ℤ). (t.by *ℤ vars_worth t.vars) *ℤ terms_worth q +ℤ x) (product_worth p q)
      ∙ sym (add_mulℤ (t.by *ℤ vars_worth t.vars) (terms_worth p) (terms_worth q))

  normal_worth : (e : Expr) → terms_worth (normal e) ≡ worth ρ e
  normal_worth (var i) = +ℤ_idr _ ∙ one_mulℤ _ ∙ mul_oneℤ _
  normal_worth (lit z) = put_worth z [] [] ∙ +ℤ_idr _ ∙ mul_oneℤ z
  normal_worth (neg a) =
      scaled_worth (negsuc 0) [] (normal a) [] ∙ +ℤ_idr _
      ∙ neg_mulℤ (pos 1) (terms_worth (normal a)) ∙ ap neg_ℤ (one_mulℤ (terms_worth (normal a)) ∙ normal_worth a)
  normal_worth (a ⊕ b) = sum_worth (normal a) (normal b) ∙ ap₂ (λ (x y : ℤ). x +ℤ y) (normal_worth a) (normal_worth b)
  normal_worth (a ⊗ b) = product_worth (normal a) (normal b) ∙ ap₂ (λ (x y : ℤ). x *ℤ y) (normal_worth a) (normal_worth b)

  -- an identity: its two sides, and `refl` where their normal forms are the same
  pub ring : (a b : Expr) → normal a ≡ normal b → worth ρ a ≡ worth ρ b
  ring a b p = sym (normal_worth a) ∙ ap terms_worth p ∙ normal_worth b

-- five variables for identities to be written in
abbrev pub x₀ : Expr
x₀ = var 0

abbrev pub x₁ : Expr
x₁ = var 1

abbrev pub x₂ : Expr
x₂ = var 2

abbrev pub x₃ : Expr
x₃ = var 3

abbrev pub x₄ : Expr
x₄ = var 4

abbrev pub x₅ : Expr
x₅ = var 5

abbrev pub x₆ : Expr
x₆ = var 6

abbrev pub x₇ : Expr
x₇ = var 7

square_of_sum : (a b : ℤ) → (a +ℤ b) *ℤ (a +ℤ b) ≡ a *ℤ a +ℤ pos 2 *ℤ a *ℤ b +ℤ b *ℤ b
square_of_sum a b = ring (a ∷ b ∷ []) ((x₀ ⊕ x₁) ⊗ (x₀ ⊕ x₁)) (x₀ ⊗ x₀ ⊕ lit (pos 2) ⊗ x₀ ⊗ x₁ ⊕ x₁ ⊗ x₁) refl
