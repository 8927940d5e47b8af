-- What is picked at each kind, list by list: what stands at the places that the outputs name. Assumes nothing.
use mathlib.Core.Path.{◌≡◌, sym, ◌∙◌, ap, subst}
use mathlib.Core.List.{List}
use Prim.Native.Nat.{ℕ, ◌≤◌, ◌<◌}
use native.Mathlib.Omega.{arith}
use lib.IntN.{ℤ, pos}
use lib.ListN.{length}
use Rattle.lists.specs.Over.{over}
use Rattle.lists.specs.Each.{Each}
use Rattle.lists.proofs.PartOf.{PartOf, itself, part_picked}
use Rattle.bits.specs.declared.Cursor.{Cursor}
use Rattle.bits.proofs.Digits.{bits_are, are_bits_drop}
use Rattle.rules.specs.Lists.{BallLists, MatryoshkaLists}
use Rattle.rules.proofs.Lists.{centre_part, margin_part, middle_part, stray_part, static_part}
use Rattle.formulas.specs.Formula.{places}
use Rattle.formulas.specs.Kinds.{Kind, plain_kind, ball_kind, matryoshka_kind}
use Rattle.formulas.specs.Lawful.{Lawful}
use Rattle.formulas.proofs.Lawful.{plain_lawful, ball_lawful, matryoshka_lawful}
use Rattle.packed.specs.Meaning.{meant}
use Rattle.packed.proofs.WellFormed.{read_gives, results_give}
use Rattle.outputs.specs.Picking.{Pickable, outputs_in, Picks, at_places, PicksBalls, PicksMatryoshki}

module _ (K : Kind) (lawful : Lawful K) {s : List ℕ} {c : Cursor} {count room : ℕ} {work : K.Lists} (p : Pickable s c count (K.room work) room) where
  abbrev values : List K.Value
  values = K.front (places (meant s).header) work

  stand : K.Holds values work work
  stand = lawful.holds_front (places (meant s).header) work p.enough

  named : Each (λ j o. o < places (meant s).header) 0 (meant s).results
  named =
      subst (Each (λ j o. o < places (meant s).header) 0) p.at_outputs.are
      (read_gives (results_give (meant s).header.outputs (places (meant s).header)) (are_bits_drop c.at (bits_are s)) p.at_outputs.reads).0

  -- one of the kind's lists, which holds one part of the values
  part_picks : {B : Type 0} {part : K.Value → B} {of : List K.Value → List B} → PartOf K.nothing part of → (list old : List B) {new : List B}
      → list ≡ over (of values) list → new ≡ over (of (outputs_in K s work)) old
      → new ≡ over (at_places (part K.nothing) (meant s).results list) old
  part_picks q list old stands picks =
      picks
      ∙ ap (λ l. over l old)
      (sym (part_picked q values list stands named (omega (arith, lawful.front_many (places (meant s).header) work p.enough))))

pub plain_picks : {s : List ℕ} {c : Cursor} {count room : ℕ} {work old new : List ℤ} → Pickable s c count (length work) room
    → Picks plain_kind s work old new → new ≡ over (at_places (pos 0) (meant s).results work) old
plain_picks {work = work} {old} p k = part_picks plain_kind plain_lawful p (itself (pos 0)) work old (stand plain_kind plain_lawful p) k.holds

pub ball_picks : {s : List ℕ} {c : Cursor} {count room : ℕ} {work old new : BallLists} → Pickable s c count (ball_kind.room work) room
    → Picks ball_kind s work old new → PicksBalls (meant s).results work old new
ball_picks {work = work} {old} p k =
    let a = stand ball_kind ball_lawful p in
    record {
      centres_picked = part_picks ball_kind ball_lawful p centre_part work.centres old.centres a.centres_hold k.holds.centres_hold;
      margins_picked = part_picks ball_kind ball_lawful p margin_part work.margins old.margins a.margins_hold k.holds.margins_hold;
    }

pub matryoshka_picks : {s : List ℕ} {c : Cursor} {count room : ℕ} {work old new : MatryoshkaLists} → Pickable s c count (matryoshka_kind.room work) room
    → Picks matryoshka_kind s work old new → PicksMatryoshki (meant s).results work old new
matryoshka_picks {work = work} {old} p k =
    let a = stand matryoshka_kind matryoshka_lawful p in
    record {
      middles_picked = part_picks matryoshka_kind matryoshka_lawful p middle_part work.middles old.middles a.middles_hold k.holds.middles_hold;
      strays_picked = part_picks matryoshka_kind matryoshka_lawful p stray_part work.strays old.strays a.strays_hold k.holds.strays_hold;
      margins_picked = part_picks matryoshka_kind matryoshka_lawful p static_part work.margins old.margins a.margins_hold k.holds.margins_hold;
    }
