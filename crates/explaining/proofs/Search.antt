-- The search in the code's shape: before each admission, after it, and at the end. Assumes nothing.
use mathlib.Core.Path.{◌≡◌, refl, ◌∙◌, ap, sym}
use Prim.Native.Nat.{ℕ, ◌+◌, ◌<◌}
use mathlib.Core.List.{List}
use Rattle.std.specs.declared.option.Option.{Option}
use Rattle.std.specs.declared.option.Option.TheVariants.{None, Some}
use Rattle.std.specs.declared.result.Result.TheVariants.{Ok, Err}
use Rattle.refusals.specs.declared.Refused.{Refused}
use Rattle.refusals.specs.Places.{Verdict}
use Rattle.refusals.specs.Places.{verdict_says}
use Rattle.rules.specs.Lists.{MatryoshkaLists}
use Rattle.formulas.specs.declared.Header.{Header}
use Rattle.formulas.specs.Readings.{Domain}
use Rattle.formulas.specs.Kinds.{matryoshka_kind}
use Rattle.explaining.specs.Explaining.{Searchable, tries, Tries, HalfWay}
use Rattle.explaining.proofs.Halving.{Halving, halving_start, halving_passed, halving_refused}

pub record Search (s : List ℕ) (h : Header) (g : Domain) (old now : MatryoshkaLists) (low high t : ℕ) (met : Option Refused) (admissions : ℕ) : Type 0 where
  pub searchable : Searchable s h g old
  pub same_room : matryoshka_kind.room now ≡ matryoshka_kind.room old
  pub halving : Halving (tries s g) low high t met admissions

module _ {s : List ℕ} {h : Header} {g : Domain} {old : MatryoshkaLists} where
  pub search_begins : Searchable s h g old → Search s h g old old 0 257 255 None 0
  search_begins p = record { searchable = p; same_room = refl; halving = halving_start }

  module _ {now : MatryoshkaLists} {low high t a : ℕ} {met : Option Refused} (i : Search s h g old now low high t met a) where
    -- what is tried is the same domain
    module _ {new : MatryoshkaLists} {v : Verdict} {u : ℕ} (more : low < high) {k : Domain} (same : k ≡ g) (w : Tries s t k v)
        (l : matryoshka_kind.room new ≡ matryoshka_kind.room now) where
      pub search_passed : v ≡ Ok tt → HalfWay (t + 1) high u → Search s h g old new (t + 1) high u met (a + 1)
      search_passed e half =
          record {
            searchable = i.searchable;
            same_room = l ∙ i.same_room;
            halving = halving_passed i.halving more (sym (ap verdict_says e) ∙ w.says ∙ ap (λ (d : Domain). tries s d t) same) half;
          }

      pub search_refused : {e : Refused} → v ≡ Err e → HalfWay low t u → Search s h g old new low t u (Some e) (a + 1)
      search_refused e half =
          record {
            searchable = i.searchable;
            same_room = l ∙ i.same_room;
            halving = halving_refused i.halving more (sym (ap verdict_says e) ∙ w.says ∙ ap (λ (d : Domain). tries s d t) same) half;
          }
