-- The theorem: what is read is what the grammar says. [text.spells] A text is read as the one tree that its bytes spell; [row.27] and what is no text
-- has the place that the table says, and no other.
use Rattle.std.specs.Prelude.{◌≡◌, refl, ◌⊎◌, ◌↔◌, true, false, List, [], ◌∷◌, ◌++◌, ℕ, suc, ◌+◌, ◌-◌, ◌<◌, length, take, drop}
use Rattle.std.proofs.Common.{sym, ◌∙◌, ap, inl, inr, append_assoc, arith, take-add}
use Rattle.std.proofs.Math.Decide.{dec_lt}
use Rattle.std.proofs.Math.Seq.{take-length}
use Rattle.words.specs.Laws.Bools.{clash, look}
use Rattle.grammar.specs.Grammar.{Text, Spells}
use Rattle.grammar.specs.declared.State.{State}
use Rattle.grammar.specs.declared.State.TheVariants.{Dead, Fresh}
use Rattle.grammar.specs.Machine.{alive, fresh, move, start, reach, trace}
use Rattle.grammar.specs.Events.{heard, hear_say}
use Rattle.grammar.specs.Reads.{taken, Read, spelled, misfit, reads}
use Rattle.grammar.proofs.Laws.Left.{sound}
use Rattle.grammar.proofs.Laws.Taken.{complete}
use Rattle.grammar.proofs.Laws.Viable.{last_is, fresh_state, dead_is, reach_append, reach_dead, viable}
use Rattle.grammar.specs.Misfit.{Misfit}

-- ---- the answer by the state
no_misfit {ℓ} : {A : Type ℓ} {i : ℕ} {t : Text} → misfit i ≡ spelled t → A
no_misfit e = let z : ◌≡◌ {A = ℕ} 0 1 = cc in absurd (omega arith)

-- ---- a text that is read is spelled so, and what is spelled is read
pub reads_right : (bs : List ℕ) (t : Text) → reads bs ≡ spelled t → Spells bs t
unfolding reads
reads_right bs t e = by (look (fresh (trace start 0 bs).last))
  where
    by : (fresh (trace start 0 bs).last ≡ true) ⊎ (fresh (trace start 0 bs).last ≡ false) → Spells bs t
    by (inl f) =
        let (more, g) = fresh_state (trace start 0 bs).last f in
        let r = sound bs more g in
        let h : spelled (heard (trace start 0 bs).said).text ≡ spelled t = rw f at e in
        let k : (heard (trace start 0 bs).said).text ≡ t = cc in
        let z : r.text ≡ t = sym (hear_say r.text) ∙ ap (λ es. (heard es).text) r.said ∙ k in
        rw z at r.spells
    by (inr f) = let h : misfit (taken start bs) ≡ spelled t = rw f at e in no_misfit h

pub reads_all : (bs : List ℕ) (t : Text) → Spells bs t → reads bs ≡ spelled t
unfolding reads fresh
reads_all bs t h = let (more, e) = complete h in rw (e, hear_say t)

-- so no bytes spell two texts
pub one_text : (bs : List ℕ) (t u : Text) → Spells bs t → Spells bs u → t ≡ u
one_text bs t u h k = let e = reads_all bs t h in let f = reads_all bs u k in cc

-- how far the machine comes: through, or to a byte at which it dies
pub data Course (s : State) (bs : List ℕ) (at : ℕ) : Type 0 where
  through : alive (reach s bs) ≡ true → at ≡ length bs → Course s bs at
  stuck : at < length bs → alive (reach s (take at bs)) ≡ true → reach s (take (suc at) bs) ≡ Dead → Course s bs at

further_on : {s : State} {b at : ℕ} {bs : List ℕ} → Course (move s b).to bs at → Course s (b ∷ bs) (suc at)
unfolding reach
further_on (through a e) = through a (ap suc e)
further_on (stuck l a d) = stuck (omega arith) a d

course : (s : State) (bs : List ℕ) → alive s ≡ true → Course s bs (taken s bs)
unfolding taken reach
course s [] h = through h refl
course s (b ∷ bs) h = by (look (alive (move s b).to)) (course (move s b).to bs)
  where
    by : (alive (move s b).to ≡ true) ⊎ (alive (move s b).to ≡ false) → (alive (move s b).to ≡ true → Course (move s b).to bs (taken (move s b).to bs)) → Course s (b ∷ bs) (taken s (b ∷ bs))
    by (inl e) ih = rw e (further_on (ih e))
    by (inr e) ih = rw e (stuck (omega arith) h (dead_is (move s b).to e))

-- from a dead beginning no text goes on
dead_end : (bs : List ℕ) → reach start bs ≡ Dead → (rest : List ℕ) (t : Text) → Spells (bs ++ rest) t → ⊥
unfolding alive
dead_end bs e rest t h =
    let (more, f) = complete h in
    let g : (trace start 0 (bs ++ rest)).last ≡ Dead = rw (last_is start 0 (bs ++ rest), reach_append start bs rest, e) (reach_dead rest) in
    let z : Dead ≡ Fresh more = sym g ∙ ap (λ r. r.last) f in
    clash (ap alive z) refl

-- alive after these bytes exactly if some text begins with them
pub alive_begins : (bs : List ℕ) → (alive (reach start bs) ≡ true) ↔ ((rest : List ℕ) × (t : Text) × Spells (bs ++ rest) t)
alive_begins bs = (viable bs, λ (rest, t, h). by (look (alive (reach start bs))) rest t h)
  where
    by : (alive (reach start bs) ≡ true) ⊎ (alive (reach start bs) ≡ false) → (rest : List ℕ) (t : Text) → Spells (bs ++ rest) t → alive (reach start bs) ≡ true
    by (inl e) rest t h = e
    by (inr e) rest t h = absurd (dead_end bs (dead_is (reach start bs) e) rest t h)

misfit_place : (bs : List ℕ) (i : ℕ) → reads bs ≡ misfit i → taken start bs ≡ i
unfolding reads
misfit_place bs i e = by (look (fresh (trace start 0 bs).last))
  where
    by : (fresh (trace start 0 bs).last ≡ true) ⊎ (fresh (trace start 0 bs).last ≡ false) → taken start bs ≡ i
    by (inl f) = let z : spelled (heard (trace start 0 bs).said).text ≡ misfit i = rw f at e in no_misfit (sym z)
    by (inr f) = let z : misfit (taken start bs) ≡ misfit i = rw f at e in cc

pub misfit_right : (bs : List ℕ) (i : ℕ) → reads bs ≡ misfit i → Misfit bs i
unfolding alive
misfit_right bs i e = by (rw (misfit_place bs i e) at (course start bs refl))
  where
    none : (t : Text) → Spells bs t → ⊥
    none t h = no_misfit (sym e ∙ reads_all bs t h)

    by : Course start bs i → Misfit bs i
    by (through a f) = record { no_text = none; in_text = omega arith; goes_on = rw (f, take-length bs) (viable bs a); stops = λ l. absurd (omega arith) }
    by (stuck l a d) = record { no_text = none; in_text = omega arith; goes_on = viable (take i bs) a; stops = λ _. dead_end (take (suc i) bs) d }

-- only one place fits, so it is that one
no_later : (bs : List ℕ) (i j : ℕ) → Misfit bs i → Misfit bs j → i < j → ⊥
no_later bs i j m n l =
    let (rest, t, h) = n.goes_on in
    let e : j ≡ suc i + (j - suc i) = omega arith in
    let q : take j bs ≡ take (suc i) bs ++ take (j - suc i) (drop (suc i) bs) = ap (λ k. take k bs) e ∙ take-add (suc i) (j - suc i) bs in
    let z : Spells (take (suc i) bs ++ (take (j - suc i) (drop (suc i) bs) ++ rest)) t = rw (q, append_assoc (take (suc i) bs) (take (j - suc i) (drop (suc i) bs)) rest) at h in
    m.stops (omega (arith, n.in_text)) (take (j - suc i) (drop (suc i) bs) ++ rest) t z

pub misfit_all : (bs : List ℕ) (i : ℕ) → Misfit bs i → reads bs ≡ misfit i
misfit_all bs i m = by (reads bs) refl
  where
    same : (j : ℕ) → Misfit bs j → Dec (i < j) → Dec (j < i) → j ≡ i
    same j n (yes l) d = absurd (no_later bs i j m n l)
    same j n (no k) (yes l) = absurd (no_later bs j i n m l)
    same j n (no k) (no k') = omega arith

    by : (r : Read) → reads bs ≡ r → r ≡ misfit i
    by (spelled t) e = absurd (m.no_text t (reads_right bs t e))
    by (misfit j) e = ap misfit (same j (misfit_right bs j e) (dec_lt i j) (dec_lt j i))
