-- A list of values put to the front of lent lists one by one, whatever their kind. Assumes nothing.
use mathlib.Core.Path.{◌≡◌, sym, ◌∙◌, ap, subst}
use mathlib.Core.List.{List, [], ◌∷◌, ◌++◌}
use Prim.Native.Nat.{ℕ, ◌+◌, ◌≤◌, ◌<◌}
use native.Mathlib.Omega.{arith}
use lib.ListN.{length, get_or, take, length-append}
use lib.Seq.{length-take-le}
use Rattle.std.proofs.lemmas.List.{take_all, take_more}
use Rattle.formulas.specs.Kinds.{Kind, Puts}
use Rattle.formulas.specs.Lawful.{Lawful}

-- the first k of them stand in front
pub record PutSoFar (K : Kind) (vs : List K.Value) (old now : K.Lists) (k : ℕ) : Type 0 where
  pub room : length vs ≤ K.room old
  pub holds : K.Holds (take k vs) old now

module _ {K : Kind} (law : Lawful K) {vs : List K.Value} {old : K.Lists} where
  pub put_none : length vs ≤ K.room old → PutSoFar K vs old old 0
  put_none r = record { room = r; holds = law.holds_none old }

  module _ {now : K.Lists} {k : ℕ} (w : PutSoFar K vs old now k) where
    pub put_all : length vs ≤ k → K.Holds vs old now
    put_all l = subst (λ (us : List K.Value). K.Holds us old now) (take_all k vs l) w.holds

    module _ (more : k < length vs) where
      long : length (take k vs) ≡ k
      long = length-take-le k vs (omega (arith, more))

      pub put_inside : k < K.room now
      put_inside = omega (arith, law.room_holds (take k vs) old now (omega (arith, long, w.room, more)) w.holds, w.room, more)

      pub put_more : (d : K.Value) {v : K.Value} {new : K.Lists} → v ≡ get_or vs k d → Puts K k v now new → PutSoFar K vs old new (k + 1)
      put_more d {v} {new} e p =
          let seen = law.front_holds (take k vs) k old now long w.holds in
          let grown = take_more vs k d more ∙ ap (λ (u : K.Value). take k vs ++ u ∷ []) (sym e) in
          record {
            room = w.room;
            holds =
                subst (λ (us : List K.Value). K.Holds us old new) (sym grown)
                (law.holds_over (take k vs) (take k vs ++ v ∷ []) old now new (omega (arith, length-append (take k vs) (v ∷ []))) w.holds
                (subst (λ (us : List K.Value). K.Holds (us ++ v ∷ []) now new) seen p.holds));
          }
