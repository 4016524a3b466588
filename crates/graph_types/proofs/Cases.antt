-- Truth values, options and results, case by case.
use Rattle.std.proofs.Common.{◌≡◌, ℕ, ◌≤◌, Bool, true, false, cond, not, ◌&&◌, ◌||◌, ◌⊎◌, ◌↔◌, is_some, Some, None, Option}
use Rattle.std.proofs.Common.{Result, MatchOption, option_copied, Bor, refl, sym, ap, subst, ◌∙◌, arith}
use Rattle.std.proofs.lemmas.{Bool.{false≢true, true≢false}, Grind.common_steps}
use Rattle.std.specs.{Option.{option_or, option_map, option_and_then}, Prelude.{IsTrue, if◌then◌else◌, OnErr, IfOk, OnOk}}
use Rattle.std.specs.{Result.{IsErrAnd, IfErr}, declared.result.Result.TheVariants.{Ok, Err}}
use mir.Val.{bool_byte}

pub option_or_none : {B : Type 0} (o : Option B) → option_or o None ≡ o
option_or_none h0 = grind (arith, common_steps)

pub none_is : {B : Type 0} (o : Option B) → is_some o ≡ false → o ≡ None
none_is h0 h = grind (arith, common_steps)

pub some_not_none : {B : Type 0} (o : Option B) → is_some o ≡ true → o ≡ None → ⊥
some_not_none o h e = false≢true (sym (ap is_some e) ∙ h)

pub none_or : {B : Type 0} (a b : Option B) → a ≡ None → b ≡ None → option_or a b ≡ None
none_or a b e h = rw e h

pub none_by_test : {B : Type 0} (a : Option B) → (is_some a ≡ true → ⊥) → a ≡ None
none_by_test h0 h = grind (arith, common_steps)

pub copied_match : {X : Type 0} (P : Type 0) (Q : X → Type 0) (result : Option (Bor X)) → MatchOption (option_copied result) P Q
    → MatchOption result P (λ b. Q b.now)
copied_match P Q None p = p
copied_match P Q (Some b) q = q

pub and_both : (a b c : Bool) → (b ≡ true → c ≡ true) → (a && b) ≡ true → (a && c) ≡ true
and_both a b c h e = grind (arith, common_steps)

pub or_false : (b : Bool) → (b || false) ≡ true → b ≡ true
or_false b e = grind (arith, common_steps)

pub or_none : (b : Bool) → (b || false) ≡ false → b ≡ false
or_none b e = grind (arith, common_steps)

-- the same of slices as of what they show
pub both : {A B : Type 0} (P : A → B → Type 0) (a x : A) (b y : B) → a ≡ x → b ≡ y → P a b → P x y
both P a x b y e f p = subst (λ z. P z y) e (subst (λ z. P a z) f p)

-- an error that was passed on
pub err_then : {T E : Type 0} (r : Result T E) (P : E → Type 0) (e : E) → IsErrAnd r (λ x. x ≡ e) → P e → IfErr r P
err_then r P e is p = grind (arith, common_steps)

pub option_none : {A : Type 0} (a b : Option A) → option_or a b ≡ None → (a ≡ None) × (b ≡ None)
option_none a b e = grind (arith, common_steps, true≢false)

pub or_true : (b : Bool) → (b || true) ≡ true
or_true b = grind (arith, common_steps)

pub at_most_one : (b : Bool) → cond b 1 0 ≤ 1
at_most_one b = grind (arith, common_steps)

-- two answers to one question
pub alike : (P : Type 0) (a b : Bool) → (IsTrue a ↔ P) → (P ↔ IsTrue b) → b ≡ a
alike P true true p q = refl
alike P false false p q = refl
alike P true false p q = absurd (false≢true (q.0 (p.0 refl)))
alike P false true p q = absurd (false≢true (p.1 (q.1 refl)))

pub some_pin : (p : Option ℕ → Bool) (o : Option ℕ) → p None ≡ false → p o ≡ true → (n : ℕ) × (o ≡ Some n) × (p (Some n) ≡ true)
some_pin p o never holds = grind (arith, common_steps)

pub option_map_some : {A B : Type 0} (f : A → B) (o : Option A) (y : B) → option_map f o ≡ Some y → (x : A) × (o ≡ Some x)
    × (y ≡ f x)
option_map_some f o y is = grind (arith, common_steps)

pub and_then_some : {A B : Type 0} (f : A → Option B) (o : Option A) (y : B) → option_and_then f o ≡ Some y → (x : A)
    × (o ≡ Some x) × (f x ≡ Some y)
and_then_some f o y is = grind (arith, common_steps)

-- tests
pub and_left : (a b : Bool) → (a && b) ≡ true → a ≡ true
and_left a b is = grind (arith, common_steps)

pub and_right : (a b : Bool) → (a && b) ≡ true → b ≡ true
and_right a b is = grind (arith, common_steps)

pub neither : (a b : Bool) → not (a || b) ≡ (not a && not b)
neither a b = grind (arith, common_steps)

pub true_or_false : (b : Bool) → (b ≡ true) ⊎ (b ≡ false)
true_or_false b = grind (arith, common_steps)

pub some_if : {A : Type 0} (t : Bool) (x : A) → is_some (if t then Some x else None) ≡ t
some_if t x = grind (arith, common_steps)

pub err_always : {A E : Type 0} (r : Result A E) (P : Type 0) → P → OnErr r P
err_always (Ok x) P is = tt
err_always (Err e) P is = is

pub none_not : (n : ℕ) → None ≡ Some n → ⊥
none_not n e = cc

pub same_bool : (a b : Bool) → (a ≡ true → b ≡ true) → (b ≡ true → a ≡ true) → a ≡ b
same_bool a b f g = grind (arith, common_steps)

-- what is true of a value, by what is true of it and of the call
pub by_three : {T E : Type 0} (r : Result T E) (P R : T → Type 0) (Q S : Type 0) → ((x : T) → P x → Q → S → R x) → IfOk r P
    → OnOk r Q → OnOk r S → IfOk r R
by_three r h e k u f p q s = grind (arith, common_steps)

pub byte_at_most_one : (b : Bool) → bool_byte b ≤ 1
byte_at_most_one true = omega arith
byte_at_most_one false = omega arith

pub neither_true : (a b : Bool) → (a || b) ≡ false → (a ≡ false) × (b ≡ false)
neither_true false b is = (refl, is)
neither_true true b is = absurd (cc)

pub on_ok_map : {T E : Type 0} (r : Result T E) (P Q : Type 0) → (P → Q) → OnOk r P → OnOk r Q
on_ok_map (Ok x) P Q f h = f h
on_ok_map (Err e) P Q f h = tt

pub unsome : {X : Type 0} (x y : X) → Some x ≡ Some y → x ≡ y
unsome x y e = cc
