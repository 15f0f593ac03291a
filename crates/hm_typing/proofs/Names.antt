-- Names are equal where their texts are, and each has a number.
use Rattle.std.proofs.Common.{◌≡◌, ℕ, zero, suc, ◌+◌, ◌*◌, ◌/◌, ◌%◌, ◌<◌, ◌≤◌, true, false, cond, ◌==◌, List, [], ◌∷◌, refl, sym, ap, ◌∙◌, arith}
use Rattle.hm_typing.specs.Names.{Identifier, local, global, binding}
use native.Mathlib.Decide.{ℕ_discrete}

-- a text as a number, and back
abbrev after : ℕ → ℕ → ℕ
after zero m = 2 * m + 1
after (suc x) m = 2 * after x m

abbrev pub code_text : List ℕ → ℕ
code_text [] = 0
code_text (x ∷ xs) = after x (code_text xs)

abbrev bump : List ℕ → List ℕ
bump [] = []
bump (x ∷ xs) = suc x ∷ xs

abbrev back_in : ℕ → ℕ → List ℕ
back_in zero n = []
back_in (suc f) n = cond (n == 0) [] (cond (n % 2 == 1) (zero ∷ back_in f (n / 2)) (bump (back_in f (n / 2))))

after_more : (x m : ℕ) → m < after x m
after_more zero m = omega arith
after_more (suc x) m = omega (arith, after_more x m)

zero_in : (f : ℕ) → back_in f 0 ≡ []
zero_in zero = refl
zero_in (suc f) = refl

odd_step : (f m : ℕ) → back_in (suc f) (2 * m + 1) ≡ zero ∷ back_in f m
odd_step f m =
    let a : (2 * m + 1 == 0) ≡ false = grind (arith, Rattle.std.proofs.lemmas.Bool.Decides.nat_tests) in
    let b : ((2 * m + 1) % 2 == 1) ≡ true = grind (arith, Rattle.std.proofs.lemmas.Bool.Decides.nat_tests) in
    let c : (2 * m + 1) / 2 ≡ m = omega arith in
    ap (λ t. cond t [] (cond ((2 * m + 1) % 2 == 1) (zero ∷ back_in f ((2 * m + 1) / 2)) (bump (back_in f ((2 * m + 1) / 2))))) a
    ∙ (ap (λ t. cond t (zero ∷ back_in f ((2 * m + 1) / 2)) (bump (back_in f ((2 * m + 1) / 2)))) b ∙ ap (λ k. zero ∷ back_in f k) c)

even_step : (f m : ℕ) → 0 < m → back_in (suc f) (2 * m) ≡ bump (back_in f m)
even_step f m p =
    let a : (2 * m == 0) ≡ false = grind (arith, Rattle.std.proofs.lemmas.Bool.Decides.nat_tests) in
    let b : ((2 * m) % 2 == 1) ≡ false = grind (arith, Rattle.std.proofs.lemmas.Bool.Decides.nat_tests) in
    let c : (2 * m) / 2 ≡ m = omega arith in
    ap (λ t. cond t [] (cond ((2 * m) % 2 == 1) (zero ∷ back_in f ((2 * m) / 2)) (bump (back_in f ((2 * m) / 2))))) a
    ∙ (ap (λ t. cond t (zero ∷ back_in f ((2 * m) / 2)) (bump (back_in f ((2 * m) / 2)))) b ∙ ap (λ k. bump (back_in f k)) c)

mutual_back : (x : ℕ) (xs : List ℕ) → ((f : ℕ) → code_text xs ≤ f → back_in f (code_text xs) ≡ xs) → (f : ℕ) → after x (code_text xs) ≤ f → back_in f (after x (code_text xs)) ≡ x ∷ xs
mutual_back zero xs ih zero l = absurd (omega arith)
mutual_back zero xs ih (suc f) l = odd_step f (code_text xs) ∙ ap (λ t. zero ∷ t) (ih f (omega arith))
mutual_back (suc x) xs ih zero l = absurd (let h = after_more x (code_text xs) in omega arith)
mutual_back (suc x) xs ih (suc f) l = even_step f (after x (code_text xs)) (let h = after_more x (code_text xs) in omega arith) ∙ ap bump (mutual_back x xs ih f (let h = after_more x (code_text xs) in omega arith))

back_code_in : (xs : List ℕ) (f : ℕ) → code_text xs ≤ f → back_in f (code_text xs) ≡ xs
back_code_in [] f l = zero_in f
back_code_in (x ∷ xs) f l = mutual_back x xs (back_code_in xs) f l

abbrev pub back_text : ℕ → List ℕ
back_text n = back_in n n

back_code_text : (xs : List ℕ) → back_text (code_text xs) ≡ xs
back_code_text xs = back_code_in xs (code_text xs) (omega arith)

unfoldable pub code : Identifier → ℕ
code (local x) = code_text (0 ∷ x)
code (binding m n) = code_text (1 ∷ n ∷ m)
code (global a) = code_text (suc (suc (code_text a.«module»)) ∷ a.name)

abbrev ident_of : List ℕ → Identifier
ident_of [] = local []
ident_of (zero ∷ x) = local x
ident_of (suc zero ∷ []) = local []
ident_of (suc zero ∷ n ∷ m) = binding m n
ident_of (suc (suc n) ∷ x) = global (record { «module» = back_text n; name = x })

unfoldable pub back : ℕ → Identifier
back n = ident_of (back_text n)

-- each name is found again from its number
pub back_code : (x : Identifier) → back (code x) ≡ x
unfolding code back
back_code (local x) = ap ident_of (back_code_text (0 ∷ x))
back_code (binding m n) = ap ident_of (back_code_text (1 ∷ n ∷ m))
back_code (global a) = ap ident_of (back_code_text (suc (suc (code_text a.«module»)) ∷ a.name)) ∙ ap (λ t. global (record { «module» = t; name = a.name })) (back_code_text a.«module»)

pub code_inj : (x y : Identifier) → code x ≡ code y → x ≡ y
code_inj x y e = sym (back_code x) ∙ (ap back e ∙ back_code y)

pub name_discrete : (x y : Identifier) → Dec (x ≡ y)
name_discrete x y = elim (ℕ_discrete (code x) (code y)) [ yes e ↦ yes (code_inj x y e) | no n ↦ no (λ e. n (ap code e)) ]

-- a family of names as one of numbers
abbrev pub by_number : {A : Type 0} → (Identifier → A) → ℕ → A
by_number τ i = τ (back i)

pub by_number_code : {A : Type 0} (τ : Identifier → A) (x : Identifier) → by_number τ (code x) ≡ τ x
by_number_code τ x = ap τ (back_code x)
