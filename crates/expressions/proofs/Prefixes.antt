-- Where the parser stops is where the text goes wrong. Assumes nothing.
use mathlib.Core.Path.{◌≡◌, refl, sym, ◌∙◌, ap, subst}
use mathlib.Core.List.{List, [], ◌∷◌, ◌++◌, map, append_assoc, append-nil}
use Prim.Native.Nat.{ℕ, zero, suc, ◌-◌, ◌≤◌, ◌<◌}
use native.Mathlib.Omega.{arith}
use lib.ListN.{length, take, length-append, length-map}
use lib.Seq.{take-append_seam}
use Rattle.expressions.specs.Tree.{Tree}
use Rattle.expressions.specs.Kind.{Kind, kind}
use Rattle.expressions.specs.Grammar.{a_sum, Gives}
use Rattle.expressions.specs.Parser.{Place, outermost, inside, State, want, digits, pointed, have, after, around, summed, Step, go, stop, step, Outcome, accepted, stopped, end_at, finish, onward, run, beginning}
use Rattle.expressions.specs.Texts.{Text, Begins, tree, refused_at, placed, parse, Refusal, wrong_byte, wrong_end, too_many}
use Rattle.expressions.proofs.Completeness.{complete, roomier, one_reading}
use Rattle.expressions.proofs.Soundness.{sound}
use Rattle.expressions.proofs.Completions.{completion, completes}
use Rattle.expressions.proofs.Raised.{raise, Raised, as_before, as_wrong, no_longer, step_raised, finish_raised}

no_tree : {n : ℕ} {r : List Kind} {t : Tree} → stopped n r ≡ accepted t → ⊥
no_tree e = let z : ◌≡◌ {A = ℕ} 0 1 = cc in omega arith

-- ---- going on from state to state

data Goes : State → List Kind → State → Type 0 where
  here : {s : State} → Goes s [] s
  on : {s s' s'' : State} {c : Kind} {cs : List Kind} → step s c ≡ go s' → Goes s' cs s'' → Goes s (c ∷ cs) s''

goes_run : {s s' : State} {cs : List Kind} → Goes s cs s' → (r : List Kind) → run s (cs ++ r) ≡ run s' r
goes_run here r = refl
goes_run (on {c} {cs} e g) r = ap (onward (c ∷ (cs ++ r)) (λ t. run t (cs ++ r))) e ∙ goes_run g r

goes_on : {s s' s'' : State} {cs : List Kind} (c : Kind) → Goes s cs s' → step s' c ≡ go s'' → Goes s (cs ++ c ∷ []) s''
goes_on c here e = on e here
goes_on c (on e g) k = on e (goes_on c g k)

-- why it stops: at a byte, or at the end
data Why (s : State) (n : ℕ) : List Kind → Type 0 where
  at_byte : {c : Kind} {r : List Kind} → step s c ≡ stop n → Why s n (c ∷ r)
  at_end : finish s ≡ stopped n [] → Why s n []

why_run : {s : State} {n : ℕ} {r : List Kind} → Why s n r → run s r ≡ stopped n r
why_run {r = c ∷ r} (at_byte e) = ap (onward (c ∷ r) (λ t. run t r)) e
why_run (at_end e) = e

-- ---- with more room

still : {s : State} {y : Step} → Raised (go s) y → y ≡ go (raise s)
still as_before = refl

go_raised : {s : State} {x y : Step} → x ≡ go s → Raised x y → y ≡ go (raise s)
go_raised {y} e r = still (subst (λ z. Raised z y) e r)

wrong_raised : {n : ℕ} {y : Step} → Raised (stop n) y → n ≡ 18 → y ≡ stop 18
wrong_raised as_wrong e = refl
wrong_raised no_longer e = absurd (omega arith)

goes_raised : {s s' : State} {cs : List Kind} → Goes s cs s' → Goes (raise s) cs (raise s')
goes_raised here = here
goes_raised (on {s} {c} e g) = on (go_raised e (step_raised s c)) (goes_raised g)

why_raised : {s : State} {r : List Kind} → Why s 18 r → Why (raise s) 18 r
why_raised {s} (at_byte {c} e) = at_byte (wrong_raised (subst (λ x. Raised x (step (raise s) c)) e (step_raised s c)) refl)
why_raised {s} (at_end e) = at_end (finish_raised s ∙ e)

lift : ℕ → ℕ → ℕ
lift zero n = n
lift (suc d) n = suc (lift d n)

enough : (d n : ℕ) → d ≤ lift d n
unfolding lift
enough zero n = omega arith
enough (suc d) n = omega (arith, enough d n)

always_wrong : {n : ℕ} {s : State} {cs r : List Kind} → Goes (beginning n) cs s → Why s 18 r → (d : ℕ) → (s' : State) × Goes (beginning (lift d n)) cs s' × Why s' 18 r
unfolding lift
always_wrong {s} g w zero = (s, g, w)
always_wrong g w (suc d) = let z = always_wrong g w d in (raise z.0, goes_raised z.1, why_raised z.2)

stuck : {n j : ℕ} {s : State} {cs r : List Kind} {t : Tree} → Goes (beginning n) cs s → Why s j r → Gives a_sum n (cs ++ r) t → ⊥
stuck {r} g w x = no_tree (sym (goes_run g r ∙ why_run w) ∙ complete x)

never : {n j : ℕ} {s : State} {cs r : List Kind} {t : Tree} → Goes (beginning n) cs s → Why s 18 r → Gives a_sum j (cs ++ r) t → ⊥
never {n} {j} g w x = let z = always_wrong g w j in stuck z.1 z.2 (roomier x (lift j n) (enough j n))

-- ---- where it stops

same_stop : {n j : ℕ} {r q : List Kind} → stopped n r ≡ stopped j q → n ≡ j
same_stop e = cc

same_left : {n j : ℕ} {r q : List Kind} → stopped n r ≡ stopped j q → r ≡ q
same_left e = cc

end_form : (k : Place a_sum) (t : Tree) {n : ℕ} {r : List Kind} → end_at k t ≡ stopped n r → stopped n r ≡ stopped 18 []
end_form outermost t e = absurd (no_tree (sym e))
end_form (inside k) t e = sym e

finish_form : (s : State) {n : ℕ} {r : List Kind} → finish s ≡ stopped n r → stopped n r ≡ stopped 18 []
finish_form (want n k) e = sym e
finish_form (digits n k l d v) e = let h = after n (Tree.written v d) k in end_form (around h.place) (summed h.place h.so_far) e
finish_form (pointed n k l v) e = sym e
finish_form (have h) e = end_form (around h.place) (summed h.place h.so_far) e

module _ (m : ℕ) where
  abbrev kinds : List ℕ → List Kind
  kinds s = map (kind m) s

  kinds_append : (s r : List ℕ) → kinds (s ++ r) ≡ kinds s ++ kinds r
  kinds_append [] r = refl
  kinds_append (b ∷ s) r = ap (λ (l : List Kind). kind m b ∷ l) (kinds_append s r)

  record Stop (s : State) (bs : List ℕ) (n : ℕ) (r : List Kind) : Type 0 where
    read : List ℕ
    left : List ℕ
    state : State
    goes : Goes s (kinds read) state
    split : read ++ left ≡ bs
    rest : r ≡ kinds left
    why : Why state n (kinds left)

  stops_at : (bs : List ℕ) (s : State) {n : ℕ} {r : List Kind} → run s (kinds bs) ≡ stopped n r → Stop s bs n r
  stops_at [] s {n} {r} e =
      let q : r ≡ [] = same_left (finish_form s e) in
      record { read = []; left = []; state = s; goes = here; split = refl; rest = q; why = at_end (e ∙ ap (stopped n) q) }
  stops_at (b ∷ bs) s {n} {r} e = by_step (step s (kind m b)) refl e (λ t k. stops_at bs t k)
    where
      by_step : (y : Step) → step s (kind m b) ≡ y → onward (kinds (b ∷ bs)) (λ t. run t (kinds bs)) y ≡ stopped n r
          → ((t : State) → run t (kinds bs) ≡ stopped n r → Stop t bs n r) → Stop s (b ∷ bs) n r
      by_step (go t) u e rec =
          let z = rec t e in
          record { read = b ∷ z.read; left = z.left; state = z.state; goes = on u z.goes; split = ap (λ (l : List ℕ). b ∷ l) z.split; rest = z.rest; why = z.why }
      by_step (stop j) u e rec =
          record { read = []; left = b ∷ bs; state = s; goes = here; split = refl; rest = sym (same_left e); why = at_byte (u ∙ ap stop (same_stop e)) }

  -- bytes that the parser goes through begin a text
  begin : {n : ℕ} {s : State} (bs : List ℕ) → Goes (beginning n) (kinds bs) s → Begins m n bs
  begin {n} {s} bs g =
      let z = completes m s in
      record {
        rest = completion s;
        says = z.0;
        is_text = record { gives = sound n (ap (run (beginning n)) (kinds_append bs (completion s)) ∙ goes_run g (kinds (completion s)) ∙ z.1) };
      }

  parts : {j : ℕ} {t : Tree} (s r : List ℕ) → Text m j (s ++ r) t → Gives a_sum j (kinds s ++ kinds r) t
  parts {j} {t} s r x = subst (λ l. Gives a_sum j l t) (kinds_append s r) x.gives

  one_more : {A : Type 0} (xs : List A) (y : A) (ys : List A) → take (suc (length xs)) (xs ++ y ∷ ys) ≡ xs ++ y ∷ []
  one_more [] y ys = refl
  one_more (x ∷ xs) y ys = ap (λ l. x ∷ l) (one_more xs y ys)

  -- what begins with the bytes before the place and the one at it
  begun : {j : ℕ} (bs : List ℕ) (b : ℕ) (cs : List ℕ) → Begins m j (take (suc (length bs)) (bs ++ b ∷ cs))
      → (r : List ℕ) × (t : Tree) × Gives a_sum j (kinds bs ++ kind m b ∷ kinds r) t
  begun {j} bs b cs x =
      let y = subst (Begins m j) (one_more bs b cs) x in
      (y.rest, y.says, parts bs (b ∷ y.rest) (subst (λ l. Text m j l y.says) (append_assoc bs (b ∷ []) y.rest) y.is_text))

  shorter : (bs : List ℕ) (b : ℕ) (cs : List ℕ) → length bs < length (bs ++ b ∷ cs)
  shorter bs b cs = rw length-append (omega arith)

  byte_refusal : {n j : ℕ} {s : State} {y : Step} (bs : List ℕ) (b : ℕ) (cs : List ℕ) → Goes (beginning n) (kinds bs) s → step s (kind m b) ≡ stop j
      → Raised (stop j) y → step (raise s) (kind m b) ≡ y → Refusal m n (bs ++ b ∷ cs) j (length bs)
  byte_refusal {n} bs b cs g e as_wrong k =
      wrong_byte (shorter bs b cs) (subst (Begins m n) (sym (take-append_seam bs (b ∷ cs))) (begin bs g)) (λ i x. let y = begun bs b cs x in never g (at_byte e) y.2)
  byte_refusal {n} bs b cs g e (no_longer {s = z}) k =
      too_many (shorter bs b cs) (subst (Begins m n) (sym (take-append_seam bs (b ∷ cs))) (begin bs g))
      (subst (Begins m (suc n)) (sym (one_more bs b cs))
      (begin (bs ++ b ∷ []) (subst (λ l. Goes (beginning (suc n)) l z) (sym (kinds_append bs (b ∷ []))) (goes_on (kind m b) (goes_raised g) k))))
      (λ x. let y = begun bs b cs x in stuck g (at_byte e) y.2)

  refusal : {n j : ℕ} {s : State} (bs cs : List ℕ) → Goes (beginning n) (kinds bs) s → Why s j (kinds cs) → Refusal m n (bs ++ cs) j (length bs)
  refusal {n} {j} {s} bs [] g (at_end e) =
      let b : Refusal m n bs 18 (length bs) = wrong_end (begin bs g) (λ i t x. never g (at_end (e ∙ finish_form s e)) (subst (λ l. Gives a_sum i l t) (sym (append-nil (kinds bs))) x.gives)) in
      subst (λ l. Refusal m n l j (length bs)) (sym (append-nil bs)) (subst (λ i. Refusal m n bs i (length bs)) (sym (same_stop (finish_form s e))) b)
  refusal {s} bs (b ∷ cs) g (at_byte e) = byte_refusal bs b cs g e (subst (λ x. Raised x (step (raise s) (kind m b))) e (step_raised s (kind m b))) refl

  -- ---- the parser, on bytes

  no_text : {t : Tree} {r p : ℕ} → tree t ≡ refused_at r p → ⊥
  no_text e = let z : ◌≡◌ {A = ℕ} 0 1 = cc in omega arith

  same_number : {r p r' p' : ℕ} → refused_at r p ≡ refused_at r' p' → r ≡ r'
  same_number e = cc

  same_place : {r p r' p' : ℕ} → refused_at r p ≡ refused_at r' p' → p ≡ p'
  same_place e = cc

  -- "Every text has at most one reading"
  pub one_tree : {n j : ℕ} {s : List ℕ} {t u : Tree} → Text m n s t → Text m j s u → t ≡ u
  one_tree x y = one_reading x.gives y.gives

  pub text_parsed : {n : ℕ} {s : List ℕ} {t : Tree} → Text m n s t → parse m n s ≡ tree t
  text_parsed {s} x = ap (placed (length s)) (complete x.gives)

  pub parsed_text : {n : ℕ} (s : List ℕ) {t : Tree} → parse m n s ≡ tree t → Text m n s t
  parsed_text {n} s {t} e = by_outcome (run (beginning n) (kinds s)) refl e
    where
      same : {u : Tree} → tree u ≡ tree t → u ≡ t
      same e = cc

      by_outcome : (o : Outcome) → run (beginning n) (kinds s) ≡ o → placed (length s) o ≡ tree t → Text m n s t
      by_outcome (accepted u) k e = record { gives = sound n (k ∙ ap accepted (same e)) }
      by_outcome (stopped r cs) k e = absurd (no_text (sym e))

  pub refused_as : {n : ℕ} (s : List ℕ) {r p : ℕ} → parse m n s ≡ refused_at r p → Refusal m n s r p
  refused_as {n} s {r} {p} e = by_outcome (run (beginning n) (kinds s)) refl e
    where
      placed_at : (bs cs : List ℕ) → length (bs ++ cs) - length (kinds cs) ≡ length bs
      placed_at bs cs = simp (length-append, length-map) (omega arith)

      by_outcome : (o : Outcome) → run (beginning n) (kinds s) ≡ o → placed (length s) o ≡ refused_at r p → Refusal m n s r p
      by_outcome (accepted u) k e = absurd (no_text e)
      by_outcome (stopped j cs) k e =
          let z = stops_at s (beginning n) k in
          let at : length z.read ≡ p =
          sym (placed_at z.read z.left) ∙ ap (λ l. length l - length (kinds z.left)) z.split ∙ ap (λ l. length s - length l) (sym z.rest) ∙ same_place e in
          subst (λ q. Refusal m n s r q) at (subst (λ i. Refusal m n s i (length z.read)) (same_number e)
          (subst (λ l. Refusal m n l j (length z.read)) z.split (refusal z.read z.left z.goes z.why)))
