-- A part of a text and what is joined to it. Assumes nothing.
use mathlib.Core.Path.{◌≡◌, sym, ◌∙◌, ap, ap₂, subst}
use mathlib.Core.List.{List, [], ◌∷◌, ◌++◌, append_assoc}
use Prim.Native.Nat.{ℕ, ◌+◌}
use native.Mathlib.Omega.{arith}
use lib.ListN.{length, length-append}
use Rattle.formulas.specs.declared.Instruction.{Instruction}
use Rattle.expressions.specs.Tree.{Tree}
use Rattle.expressions.specs.Grammar.{Level}
use Rattle.expressions.specs.Parser.{Place, have, run, ended}
use Rattle.expressions.specs.Compiled.{Compiled, joined, compiled}
use Rattle.expression_parser.specs.declared.Made.{Made}
use Rattle.expression_parser.specs.Words.{word_of, Keeps, Puts}
use Rattle.expression_parser.specs.Parts.{rest, MadeSo}
use Rattle.expression_parser.proofs.Keeping.{keeps_more}

-- the value that an instruction behind a part makes
abbrev pub next_made : ℕ → Made → Made
next_made m r = record { value = m + r.count; at = r.at; count = r.count + 1 }

-- an operator and its tree
pub record Operator (F : ℕ) (op : ℕ → ℕ → Instruction) (top : Tree → Tree → Tree) : Type 0 where
  pub compiles : (t u : Tree) (n : ℕ)
      → compiled F (top t u) n ≡ joined op n (compiled F t n) (compiled F u (n + length (compiled F t n).program))

module _ {l l' : Level} {F m n : ℕ} {s : List ℕ} {from count : ℕ} {old mid mid' new : List ℕ} {left right : Made}
    {op : ℕ → ℕ → Instruction} {top : Tree → Tree → Tree} (o : Operator F op top)
    (a : MadeSo l F m n s from count old mid left) (b : MadeSo l' F m n s (left.at + 1) left.count mid mid' right)
    (puts : Puts right.count (word_of (op left.value right.value)) mid' new) where
  abbrev A : Compiled
  A = compiled F a.tree (m + count)

  abbrev B : Compiled
  B = compiled F b.tree (m + left.count)

  place : m + left.count ≡ m + count + length A.program
  place = omega (arith, a.count_is)

  both : compiled F (top a.tree b.tree) (m + count)
      ≡ joined op (m + count) A B
  both =
      o.compiles a.tree b.tree (m + count)
      ∙ ap (λ (v : ℕ). joined op (m + count) A (compiled F b.tree v)) (sym place)

  abbrev instruction : Instruction
  instruction = op A.result B.result

  word : word_of (op left.value right.value) ≡ word_of instruction
  word = ap₂ (λ i j. word_of (op i j)) a.value_is b.value_is

  counted : right.count ≡ count + length A.program + length B.program
  counted = omega (arith, a.count_is, b.count_is)

  pub joined_so : ((k : Place l) → run (have (ended n a.tree k)) (rest m s left.at) ≡ run (have (ended n (top a.tree b.tree) k)) (rest m s right.at))
      → MadeSo l F m n s from count old new (next_made m right)
  joined_so goes =
      record {
        tree = top a.tree b.tree;
        goes = λ k. a.goes k ∙ goes k;
        value_is =
            sym (ap (λ (c : Compiled). c.result) both ∙ result_at (length A.program) (length B.program) counted);
        count_is =
            sym (ap (λ (c : Compiled). count + length c.program) both
            ∙ long A.program B.program counted);
        keeps = λ p e h. subst (λ is. Keeps (p ++ is) new) (sym (ap (λ (c : Compiled). c.program) both)) (kept p e h);
        long = puts.long ∙ b.long ∙ a.long;
        named = omega arith;
        onward = omega (arith, a.onward, b.onward);
        within = b.within;
        few = omega (arith, a.few, b.few);
      }
    where
      result_at : (x y : ℕ) → right.count ≡ count + x + y → m + count + x + y ≡ m + right.count
      result_at x y e = omega arith

      long : (x y : List Instruction) → right.count ≡ count + length x + length y
          → count + length (x ++ (y ++ instruction ∷ [])) ≡ right.count + 1
      long x y e = simp length-append (omega arith)

      kept : (p : List Instruction) → length p ≡ count → Keeps p old
          → Keeps (p ++ (A.program ++ (B.program ++ instruction ∷ []))) new
      kept p e h =
          simp (← append_assoc)
          (keeps_more instruction {old = mid'} (simp length-append (omega (arith, counted)))
          (b.keeps (p ++ A.program) (simp length-append (omega (arith, a.count_is))) (a.keeps p e h))
          (subst (λ w. Puts right.count w mid' new) word puts))
