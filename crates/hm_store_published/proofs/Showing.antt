-- What readers take after one publication more.
use Rattle.std.proofs.Common.{◌≡◌, ◌==◌, ℕ, zero, suc, ◌+◌, ◌^◌, ◌<◌, ◌≤◌, Bool, true, false, cond, List, [], ◌∷◌, ◌++◌, length, map, take, Option, Some, None, slice_get, slice_set, slice_index_or, refl, ap, sym, ◌∙◌, subst, arith, length-append, replicate}
use Rattle.std.specs.Option.{option_map}
use Rattle.std.specs.Prelude.{Contains}
use Rattle.std.proofs.lemmas.Bool.Decides.{nat_tests}
use Rattle.std.proofs.lemmas.List.Sums.{fold-append}
use mathlib.Core.List.{IsPrefix}
use Rattle.hm_types.specs.Interfaces.{Exports as Interface}
use Rattle.hm_syntax.specs.declared.ast.Module.{Module}
use Rattle.hm_store_published.specs.declared.publication.Publication.{Publication}
use Rattle.hm_store_published.specs.Publications.{IsLawful, MayFollow, published_interface, interface_in, entries_of}
use Rattle.hm_store_published.specs.Rules.{Shows, EndsWith}
use Rattle.std.proofs.lemmas.List.{get_or-set_other, map-set, length-map}
use Rattle.std.proofs.lemmas.Grind.{get_or-set_at}
use Rattle.hm_store_published.proofs.Beginnings.{whole, shorter_begins}

-- the last publication may follow those before it
get_last : {A : Type 0} (xs : List A) (x : A) → slice_get (xs ++ x ∷ []) (length xs) ≡ Some x
get_last [] x = refl
get_last (y ∷ xs) x = get_last xs x

take_all : {A : Type 0} (xs ys : List A) → take (length xs) (xs ++ ys) ≡ xs
take_all [] ys = refl
take_all (x ∷ xs) ys = ap (λ w. x ∷ w) (take_all xs ys)

pub last_follows : (modules : List Module) (plan : List (List ℕ)) (ps : List Publication) (p : Publication) → IsLawful modules plan (ps ++ p ∷ []) → MayFollow modules plan ps p
last_follows modules plan ps p h = subst (λ w. MayFollow modules plan w p) (take_all ps (p ∷ [])) (h.each (length ps) p (get_last ps p))

chosen : (a b : Bool) (x y z r : Option Interface) → (a ≡ true → b ≡ true → ⊥) → r ≡ cond b y z → cond a x r ≡ cond b y (cond a x z)
chosen true true x y z r apart is = absurd (apart refl refl)
chosen true false x y z r apart is = refl
chosen false b x y z r apart is = is

same_number : (a b m : ℕ) → (a == m) ≡ true → (b == m) ≡ true → a ≡ b
same_number a b m p q = grind (arith, nat_tests)

pub interface_in_more : (ps : List Publication) (p : Publication) (m : ℕ) → ¬ (Contains (map (λ q. q.number) ps) p.number)
    → interface_in (ps ++ p ∷ []) m ≡ cond (p.number == m) (published_interface p) (interface_in ps m)
interface_in_more [] p m fresh = refl
interface_in_more (q ∷ ps) p m fresh =
    let apart : (q.number == m) ≡ true → (p.number == m) ≡ true → ⊥ = λ a b. fresh (0, omega arith, same_number q.number p.number m a b) in
    let rest : ¬ (Contains (map (λ q. q.number) ps) p.number) = λ c. fresh (suc c.0, omega (arith, c.1), c.2) in
    chosen (q.number == m) (p.number == m) (published_interface q) (published_interface p) (interface_in ps m) (interface_in (ps ++ p ∷ []) m) apart (interface_in_more ps p m rest)

pub entries_more : (ps : List Publication) (p : Publication) → entries_of (ps ++ p ∷ []) ≡ p.place + 1
entries_more ps p = fold-append (λ (n : ℕ) (q : Publication). q.place + 1) 0 ps (p ∷ [])

pub next_ends : (ps qs : List Publication) (p : Publication) (f : Interface) → qs ≡ ps ++ p ∷ [] → published_interface p ≡ Some f → p.place < 2 ^ 62 → EndsWith qs p.number f (p.place + 1)
next_ends ps qs p f is given few = record { before = ps; last = p; is = is; number = refl; interface = given; place = refl; few = omega (arith, few) }

slot : (shown : List (Option Interface)) (m k : ℕ) (f : Interface) (x : Option Interface) → m < length shown → slice_index_or shown k None ≡ x → (b : Bool) → (m == k) ≡ b
    → slice_index_or (slice_set shown m (Some f)) k None ≡ cond b (Some f) x
slot shown m k f x within is true same = get_or-set_at shown m k (Some f) None (grind (arith, nat_tests)) within
slot shown m k f x within is false apart = get_or-set_other shown m k (Some f) None (grind (arith, nat_tests)) ∙ is

-- what is shown after the last publication of a list, where the list before it was shown
shows_last : (ps : List Publication) (p : Publication) (shown : List (Option Interface)) (entries : ℕ) (f : Interface) → Shows ps shown entries → ¬ (Contains (map (λ q. q.number) ps) p.number)
    → published_interface p ≡ Some f → p.number < length shown → p.place + 1 ≤ 2 ^ 62 → Shows (ps ++ p ∷ []) (slice_set shown p.number (Some f)) (p.place + 1)
shows_last ps p shown entries f old distinct given within few = record {
  interfaces_are = λ k.
      let more = interface_in_more ps p k distinct in
      let found : slice_index_or (slice_set shown p.number (Some f)) k None ≡ cond (p.number == k) (Some f) (interface_in ps k) = slot shown p.number k f (interface_in ps k) within (old.interfaces_are k) (p.number == k) refl in
      found ∙ (ap (λ (x : Option Interface). cond (p.number == k) x (interface_in ps k)) (sym given) ∙ sym more);
  entries_are = sym (entries_more ps p);
  few = few;
}

pub shows_next : (modules : List Module) (plan : List (List ℕ)) (ps qs : List Publication) (shown : List (Option Interface)) (m entries later : ℕ) (f : Interface) → Shows ps shown entries → EndsWith qs m f later
    → IsLawful modules plan qs → IsPrefix ps qs → length qs ≡ suc (length ps) → m < length shown → Shows qs (slice_set shown m (Some f)) later
shows_next modules plan ps qs shown m entries later f old ends lawful begun longer within =
    let len : length qs ≡ length ends.before + 1 = ap length ends.is ∙ length-append ends.before (ends.last ∷ []) in
    let begins : IsPrefix ends.before qs = (ends.last ∷ [], sym ends.is) in
    let same : ps ≡ ends.before = whole ps ends.before (shorter_begins ps ends.before qs begun begins (omega arith)) (omega arith) in
    let may : MayFollow modules plan ps ends.last = subst (λ w. MayFollow modules plan w ends.last) (sym same) (last_follows modules plan ends.before ends.last (subst (IsLawful modules plan) ends.is lawful)) in
    let is : ps ++ ends.last ∷ [] ≡ qs = ap (λ w. w ++ ends.last ∷ []) same ∙ sym ends.is in
    let shows : Shows (ps ++ ends.last ∷ []) (slice_set shown ends.last.number (Some f)) (ends.last.place + 1) = shows_last ps ends.last shown entries f old may.distinct ends.interface (subst (λ n. n < length shown) (sym ends.number) within) (subst (λ n. n ≤ 2 ^ 62) (sym ends.place) ends.few) in
    let named : Shows (ps ++ ends.last ∷ []) (slice_set shown m (Some f)) (ends.last.place + 1) = subst (λ n. Shows (ps ++ ends.last ∷ []) (slice_set shown n (Some f)) (ends.last.place + 1)) ends.number shows in
    let placed : Shows (ps ++ ends.last ∷ []) (slice_set shown m (Some f)) later = subst (λ n. Shows (ps ++ ends.last ∷ []) (slice_set shown m (Some f)) n) ends.place named in
    subst (λ w. Shows w (slice_set shown m (Some f)) later) is placed

none_at : {I : Type 0} (value : I → Interface) (n m : ℕ) → slice_index_or (map (option_map value) (replicate n None)) m None ≡ None
none_at value zero m = refl
none_at value (suc n) zero = refl
none_at value (suc n) (suc m) = none_at value n m

pub shows_none : {I : Type 0} (value : I → Interface) (items : List (Option I)) (ps : List Publication) (count : ℕ) → ps ≡ [] → items ≡ replicate count None
    → Shows ps (map (option_map value) items) 0
shows_none value items ps count none is = record {
  interfaces_are = λ m. ap (λ xs. slice_index_or (map (option_map value) xs) m None) is ∙ (none_at value count m ∙ sym (ap (λ w. interface_in w m) none));
  entries_are = sym (ap entries_of none);
  few = omega arith;
}

pub shows_absorbed : {I : Type 0} (modules : List Module) (plan : List (List ℕ)) (value : I → Interface) (items : List (Option I)) (new : I) (ps qs : List Publication) (m entries later : ℕ) (f : Interface)
    → Shows ps (map (option_map value) items) entries → EndsWith qs m f later → IsLawful modules plan qs → IsPrefix ps qs → length qs ≡ suc (length ps) → m < length items → value new ≡ f
    → Shows qs (map (option_map value) (slice_set items m (Some new))) later
shows_absorbed modules plan value items new ps qs m entries later f old ends lawful begun longer within is =
    let next = shows_next modules plan ps qs (map (option_map value) items) m entries later f old ends lawful begun longer (subst (λ n. m < n) (sym (length-map items (option_map value))) within) in
    let same : map (option_map value) (slice_set items m (Some new)) ≡ slice_set (map (option_map value) items) m (Some f) =
    map-set (option_map value) items m (Some new) ∙ ap (λ (x : Interface). slice_set (map (option_map value) items) m (Some x)) is in
    subst (λ xs. Shows qs xs later) (sym same) next
