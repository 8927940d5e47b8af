-- One admission in the code's shape: a domain that fits is cut to a part, the part is walked, and how the walk ends is told. Assumes nothing.
use mathlib.Core.Path.{◌≡◌, refl, sym, ◌∙◌, ap, ap₂, subst}
use mathlib.Core.List.{List, [], ◌∷◌, ◌++◌}
use Prim.Native.Nat.{ℕ, suc, ◌+◌, ◌≤◌, ◌<◌}
use native.Mathlib.Omega.{arith}
use lib.ListN.{length, get_or, length-map, length-append, get_or-map}
use Rattle.lists.specs.All.{All, none, one}
use Rattle.std.specs.declared.result.Result.TheVariants.{Ok, Err}
use Rattle.refusals.specs.declared.Refused.{Refused}
use Rattle.refusals.specs.Answer.{Answer, value, refused}
use Rattle.refusals.specs.Places.{refused_at}
use Rattle.refusals.specs.Said.{answered, refuses}
use Rattle.refusals.proofs.OneReply.{never_both, first_said, place_said}
use Rattle.rules.specs.declared.Matryoshka.{Matryoshka}
use Rattle.rules.specs.Values.{IsMatryoshka}
use Rattle.rules.specs.Lists.{MatryoshkaLists, HoldMatryoshki}
use Rattle.bits.specs.declared.Cursor.{Cursor}
use Rattle.formulas.specs.declared.Header.{Header}
use Rattle.formulas.specs.Run.{Walk, finished, stopped, with_values, onward, run, made_by, walk_end}
use Rattle.formulas.specs.declared.Instruction.{Instruction}
use Rattle.rules.specs.Operation.{Operation}
use Rattle.formulas.specs.Readings.{Domain, domain_brought}
use Rattle.formulas.specs.Kinds.{matryoshka_kind}
use Rattle.formulas.proofs.Fitting.{let_in, DomainFit, domain_fit, domain_many}
use Rattle.formulas.proofs.Lawful.{matryoshka_lawful}
use Rattle.packed.specs.Meaning.{meant}
use Rattle.packed.proofs.Formed.{Formed, formed}
use Rattle.walks.specs.Walks.{Walked}
use Rattle.walks.specs.Walks.{Walkable, walked_said, walk_of, Walks}
use Rattle.shrinking.specs.Parts.{narrowed, narrowed_all}
use Rattle.shrinking.specs.Explained.{met_in, admission}
use Rattle.shrinking.proofs.Parts.{narrowed_legal}
use Rattle.lists.proofs.Each.{all_at}
use Rattle.readings.specs.Judges.{InEach}
use Rattle.rules.specs.Lists.{no_matryoshka}
use Rattle.formulas.specs.Kinds.{StandsFor, Puts}
use Rattle.formulas.proofs.Putting.{PutSoFar, put_none, put_all, put_inside, put_more}
use Rattle.explaining.specs.Explaining.{Cuttable, Triable, tries, Tries}

-- how a walk ends, as what it met
met_stopped : (m : ℕ) (w : Walk Matryoshka) {n k : ℕ} → refuses n k ≡ walk_end m w → met_in m w ≡ refused_at n k
met_stopped m (finished vs) e = absurd (never_both (sym e))
met_stopped m (stopped j vs) e = ap₂ refused_at (sym (ap first_said e)) (sym (ap place_said e))

met_nothing : (m : ℕ) (w : Walk Matryoshka) {n : ℕ} → answered n ≡ walk_end m w → met_in m w ≡ value tt
met_nothing m (finished vs) e = refl
met_nothing m (stopped j vs) e = absurd (never_both e)

-- a run makes at most a value for each instruction
no_longer : (rule : Operation Matryoshka → Answer Matryoshka) (d : Matryoshka) (is : List Instruction) (vs : List Matryoshka)
    → length (made_by (run rule d is vs)) ≤ length vs + length is
no_longer rule d [] vs = omega arith
no_longer rule d (i ∷ is) vs = by_rule (rule (with_values d vs i)) (λ v. no_longer rule d is (vs ++ v ∷ []))
  where
    by_rule : (a : Answer Matryoshka) → ((v : Matryoshka) → length (made_by (run rule d is (vs ++ v ∷ []))) ≤ length (vs ++ v ∷ []) + length is)
        → length (made_by (onward vs (λ l. run rule d is l) a)) ≤ length vs + suc (length is)
    by_rule (value v) rec = omega (arith, rec v, length-append vs (v ∷ []))
    by_rule (refused n) rec = omega arith

module _ {s : List ℕ} {h : Header} {t : ℕ} {g : Domain} {l : MatryoshkaLists} (p : Triable s h t g l) where
  fit : DomainFit h.inputs g
  fit = domain_fit g (let_in matryoshka_kind h.inputs g p.searchable.fits).0

  many : length (matryoshka_kind.values g) ≡ h.inputs
  many = domain_many fit

  cut_many : length (narrowed_all t (matryoshka_kind.values g)) ≡ h.inputs
  cut_many = length-map (matryoshka_kind.values g) (narrowed t) ∙ many

  cut_room : length (narrowed_all t (matryoshka_kind.values g)) ≤ matryoshka_kind.room l
  cut_room = omega (arith, cut_many, p.searchable.room)

-- the first i values stand in front, each cut to its part
pub record Cutting (s : List ℕ) (h : Header) (t : ℕ) (g : Domain) (old now : MatryoshkaLists) (i : ℕ) : Type 0 where
  pub triable : Triable s h t g old
  pub so_far : PutSoFar matryoshka_kind (narrowed_all t (matryoshka_kind.values g)) old now i

pub cutting_none : {s : List ℕ} {h : Header} {t : ℕ} {g : Domain} {l : MatryoshkaLists} → Triable s h t g l → Cutting s h t g l l 0
cutting_none p = record { triable = p; so_far = put_none matryoshka_lawful (cut_room p) }

module _ {s : List ℕ} {h : Header} {t : ℕ} {g : Domain} {old now : MatryoshkaLists} {i : ℕ} (c : Cutting s h t g old now i) where
  module _ (more : i < h.inputs) where
    pub cutting_inside : i < matryoshka_kind.room now
    cutting_inside = put_inside matryoshka_lawful c.so_far (omega (arith, cut_many c.triable))

    -- what is read is of the same domain
    module _ {k : Domain} (same : k ≡ g) where
      pub cutting_reads : InEach i (domain_brought k)
      cutting_reads =
          let f = fit c.triable in
          let all : InEach i (domain_brought g) =
          one (omega (arith, f.middles_many)) (one (omega (arith, f.strays_many)) (one (omega (arith, f.margins_many)) none)) in
          rw same all

      module _ {m : Matryoshka} (stands : StandsFor matryoshka_kind i k m) where
        stands_for : m ≡ get_or (matryoshka_kind.values g) i no_matryoshka
        stands_for = stands.is ∙ ap (λ (d : Domain). get_or (matryoshka_kind.values d) i no_matryoshka) same

        pub cutting_cuttable : Cuttable t m
        cutting_cuttable =
            let legal : IsMatryoshka m =
            subst IsMatryoshka (sym stands_for) (all_at (fit c.triable).legal i no_matryoshka (omega (arith, many c.triable))) in
            record { a_part = c.triable.a_part; stray_small = omega arith; margin_small = omega arith }

        pub cutting_more : {new : MatryoshkaLists} → Puts matryoshka_kind i (narrowed t m) now new → Cutting s h t g old new (i + 1)
        cutting_more put =
            record {
              triable = c.triable;
              so_far =
                  put_more matryoshka_lawful c.so_far (omega (arith, cut_many c.triable)) (narrowed t no_matryoshka)
                  (ap (narrowed t) stands_for ∙ sym (get_or-map (narrowed t) (matryoshka_kind.values g) i no_matryoshka)) put;
            }

  module _ (all : h.inputs ≤ i) where
    holds : HoldMatryoshki (narrowed_all t (matryoshka_kind.values g)) old now
    holds = put_all matryoshka_lawful c.so_far (omega (arith, cut_many c.triable))

    in_front : matryoshka_kind.front h.inputs now ≡ narrowed_all t (matryoshka_kind.values g)
    in_front = matryoshka_lawful.front_holds (narrowed_all t (matryoshka_kind.values g)) h.inputs old now (cut_many c.triable) holds

    as_long : matryoshka_kind.room now ≡ matryoshka_kind.room old
    as_long = matryoshka_lawful.room_holds (narrowed_all t (matryoshka_kind.values g)) old now (cut_room c.triable) holds

    pub cutting_walkable : Walkable matryoshka_kind s h now
    cutting_walkable =
        record {
          is_formula = c.triable.searchable.is_formula;
          room = omega (arith, as_long, c.triable.searchable.room);
          legal = subst (All IsMatryoshka) (sym in_front) (narrowed_legal c.triable.a_part (fit c.triable).legal);
        }

    module _ {new : MatryoshkaLists} {r : Walked} (w : Walks matryoshka_kind s h now new r) where
      there : Formed s h
      there = formed s c.triable.searchable.is_formula

      -- the walk is the one that the admission at t speaks of
      met_is : met_in h.inputs (walk_of matryoshka_kind s h now) ≡ tries s g t
      unfolding admission
      met_is =
          ap₂ (λ (a : Header) (vs : List Matryoshka). met_in a.inputs (run (matryoshka_kind.rule a.scale) matryoshka_kind.nothing (meant s).program vs))
          (sym there.is_header) in_front

      pub tries_stopped : {e : Refused} → r ≡ Err e → Tries s t g (Err e)
      tries_stopped e =
          record { says = sym (sym met_is ∙ met_stopped h.inputs (walk_of matryoshka_kind s h now) (sym (ap walked_said e) ∙ w.says)) }

      pub tries_finished : {d : Cursor} → r ≡ Ok d → Tries s t g (Ok tt)
      tries_finished e =
          record { says = sym (sym met_is ∙ met_nothing h.inputs (walk_of matryoshka_kind s h now) (sym (ap walked_said e) ∙ w.says)) }

      -- the walk leaves the lists as long as they were
      pub room_kept : matryoshka_kind.room new ≡ matryoshka_kind.room old
      room_kept =
          matryoshka_lawful.room_holds (made_by (walk_of matryoshka_kind s h now)) now new
          (omega (
            arith,
            no_longer (matryoshka_kind.rule h.scale) no_matryoshka (meant s).program (matryoshka_kind.front h.inputs now),
            ap length in_front,
            cut_many c.triable,
            there.well.program_long,
            ap (λ (a : Header). a.instructions) there.is_header,
            as_long,
            c.triable.searchable.room,
          )) w.holds
          ∙ as_long
