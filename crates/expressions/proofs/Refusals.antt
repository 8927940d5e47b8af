-- Each refusal is given exactly when the request says. Assumes nothing.
use mathlib.Core.Path.{◌≡◌, refl, sym, ◌∙◌, ap, subst}
use mathlib.Core.List.{List, ◌++◌, append_assoc}
use Prim.Native.Nat.{ℕ, suc}
use lib.ListN.{take, drop, take-append-drop}
use Rattle.lists.proofs.Beginnings as law
use Rattle.expressions.specs.Tree.{Tree}
use Rattle.expressions.specs.Texts.{Text, Begins, Parsed, tree, refused_at, parse, Refusal, wrong_byte, wrong_end, too_many}
use Rattle.expressions.proofs.Prefixes.{parsed_text, refused_as}

module _ (m n : ℕ) (s : List ℕ) where
  -- fewer bytes begin a text where more do
  begins_part : {j : ℕ} (a b : List ℕ) → Begins m j (a ++ b) → Begins m j a
  begins_part {j} a b x =
      record { rest = b ++ x.rest; says = x.says; is_text = subst (λ l. Text m j l x.says) (append_assoc a b x.rest) x.is_text }

  begins_take : {j : ℕ} (p : ℕ) → Begins m j s → Begins m j (take p s)
  begins_take p x = law.begins_take begins_part s p x

  text_begins : {t : Tree} (p : ℕ) → Text m n s t → Begins m n (take p s)
  text_begins {t} p x = record { rest = drop p s; says = t; is_text = subst (λ l. Text m n l t) (sym (take-append-drop p s)) x }

  no_tree : {r p : ℕ} {t : Tree} → Refusal m n s r p → Text m n s t → ⊥
  no_tree (wrong_byte {p} l b w) x = w n (text_begins (suc p) x)
  no_tree {t} (wrong_end b w) x = w n t x
  no_tree (too_many {p} l b c w) x = w (text_begins (suc p) x)

  -- the bytes go wrong at one place only
  one_place : (p q : ℕ) → Begins m n (take p s) → (Begins m n (take (suc p) s) → ⊥) → Begins m n (take q s) → (Begins m n (take (suc q) s) → ⊥) → p ≡ q
  one_place p q b w c v = law.one_place begins_part s p q b w c v

  one_refusal : {r p r' p' : ℕ} → Refusal m n s r p → Refusal m n s r' p' → refused_at r p ≡ refused_at r' p'
  one_refusal (wrong_byte {p} l b w) (wrong_byte {p = q} l' b' w') = ap (refused_at 18) (one_place p q b (w n) b' (w' n))
  one_refusal (wrong_byte {p} l b w) (wrong_end b' w') = absurd (w n (begins_take (suc p) b'))
  one_refusal (wrong_byte {p} l b w) (too_many {p = q} l' b' c' w') =
      absurd (w (suc n) (subst (λ p. Begins m (suc n) (take (suc p) s)) (sym (one_place p q b (w n) b' w')) c'))
  one_refusal (wrong_end b w) (wrong_byte {p} l' b' w') = absurd (w' n (begins_take (suc p) b))
  one_refusal (wrong_end b w) (wrong_end b' w') = refl
  one_refusal (wrong_end b w) (too_many {p} l' b' c' w') = absurd (w' (begins_take (suc p) b))
  one_refusal (too_many {p} l b c w) (wrong_byte {p = q} l' b' w') =
      absurd (w' (suc n) (subst (λ p. Begins m (suc n) (take (suc p) s)) (one_place p q b w b' (w' n)) c))
  one_refusal (too_many {p} l b c w) (wrong_end b' w') = absurd (w (begins_take (suc p) b'))
  one_refusal (too_many {p} l b c w) (too_many {p = q} l' b' c' w') = ap (refused_at 19) (one_place p q b w b' w')

  pub refused_so : {r p : ℕ} → Refusal m n s r p → parse m n s ≡ refused_at r p
  refused_so {r} {p} x = by_parsed (parse m n s) refl
    where
      by_parsed : (a : Parsed) → parse m n s ≡ a → parse m n s ≡ refused_at r p
      by_parsed (tree t) e = absurd (no_tree x (parsed_text m s e))
      by_parsed (refused_at r' p') e = e ∙ one_refusal (refused_as m s e) x
