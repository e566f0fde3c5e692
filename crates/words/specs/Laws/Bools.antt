-- The Booleans' small change: a test taken apart, put together, or looked at. Each by the cases of its test.
use Rattle.std.specs.Prelude.{◌≡◌, refl, ◌⊎◌, Bool, true, false, not, ◌&&◌, ◌||◌, ℕ, T, eqb}
use Rattle.std.proofs.Common.{sym, ◌∙◌, inl, inr, arith, eqb→eq}
use Rattle.std.proofs.Math.Dec.{eqb_refl}

-- a test that is true and false shows anything
pub clash {ℓ} : {A : Type ℓ} {b : Bool} → b ≡ true → b ≡ false → A
clash p q = let z : ◌≡◌ {A = ℕ} 0 1 = cc in absurd (omega arith)

pub T→eq : {b : Bool} → T b → b ≡ true
T→eq {b = true} t = refl
T→eq {b = false} t = absurd t

pub eq→T : {b : Bool} → b ≡ true → T b
eq→T {b = true} t = tt
eq→T {b = false} t = clash t refl

-- b is true or false, with the equation
pub look : (b : Bool) → (b ≡ true) ⊎ (b ≡ false)
look true = inl refl
look false = inr refl

pub and_l : (a b : Bool) → (a && b) ≡ true → a ≡ true
and_l true b h = refl
and_l false b h = h

pub and_r : (a b : Bool) → (a && b) ≡ true → b ≡ true
and_r true b h = h
and_r false b h = clash h refl

pub and_i : {a b : Bool} → a ≡ true → b ≡ true → (a && b) ≡ true
and_i p q = rw (p, q)

pub or_e : (a b : Bool) → (a || b) ≡ true → (a ≡ true) ⊎ (b ≡ true)
or_e true b h = inl refl
or_e false b h = inr h

pub or_fl : (a b : Bool) → (a || b) ≡ false → a ≡ false
or_fl true b h = h
or_fl false b h = refl

pub or_fr : (a b : Bool) → (a || b) ≡ false → b ≡ false
or_fr true b h = clash refl h
or_fr false b h = h

pub or_l : {a : Bool} (b : Bool) → a ≡ true → (a || b) ≡ true
or_l b p = rw p

pub or_r : (a : Bool) {b : Bool} → b ≡ true → (a || b) ≡ true
or_r true p = refl
or_r false p = p

pub not_t : (a : Bool) → not a ≡ true → a ≡ false
not_t true p = sym p
not_t false p = refl

pub not_f : {a : Bool} → a ≡ false → not a ≡ true
not_f p = rw p

-- two tests are equal if each implies the other
pub bool_eq : (a b : Bool) → (a ≡ true → b ≡ true) → (b ≡ true → a ≡ true) → a ≡ b
bool_eq true true f g = refl
bool_eq true false f g = sym (f refl)
bool_eq false true f g = g refl
bool_eq false false f g = refl

-- if it were true there would be a contradiction
pub to_false : (a : Bool) → (a ≡ true → ⊥) → a ≡ false
to_false true f = absurd (f refl)
to_false false f = refl

-- the test of two numbers says what it shows
pub eqb_eq : (m n : ℕ) → eqb m n ≡ true → m ≡ n
eqb_eq m n h = eqb→eq m n (eq→T h)

pub eqb_same : (n : ℕ) → eqb n n ≡ true
eqb_same n = T→eq (eqb_refl n)

pub eqb_i : {m n : ℕ} → m ≡ n → eqb m n ≡ true
eqb_i {m} {n} e = rw e (eqb_same n)

pub eqb_ne : (m n : ℕ) → (m ≡ n → ⊥) → eqb m n ≡ false
eqb_ne m n f = to_false (eqb m n) (λ e. f (eqb_eq m n e))

pub eqb_comm : (m n : ℕ) → eqb m n ≡ eqb n m
eqb_comm m n = bool_eq (eqb m n) (eqb n m) (λ e. eqb_i (sym (eqb_eq m n e))) (λ e. eqb_i (sym (eqb_eq n m e)))

-- a test made in two halves, as code makes it: the first half decides, or the second does
pub or_first : {r a : Bool} (b : Bool) → r ≡ a → r ≡ true → r ≡ (a || b)
or_first b e t = t ∙ sym (or_l b (sym e ∙ t))

pub or_second : {r a s : Bool} (b : Bool) → r ≡ a → r ≡ false → s ≡ b → s ≡ (a || b)
or_second b e f g = rw (← e, f) g
