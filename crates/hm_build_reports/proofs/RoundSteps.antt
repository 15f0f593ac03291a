-- Looks and rounds that follow one another.
use Rattle.std.proofs.Common.{◌≡◌, ◌≢◌, ◌↔◌, IsTrue, ⊎_elim, inr, subst, refl, ◌∙◌, ◌<◌, ◌+◌, ◌==◌, ℕ, suc, zero, not, Bool, true, false, List, [], ◌∷◌, ◌++◌, Option, Some, None, map, take, length, get_or, ap, sym, append_assoc, arith, Global}
use Rattle.std.specs.Prelude.{slice_index_or}
use Rattle.std.specs.Option.{is_some}
use Rattle.std.proofs.lemmas.Bool.{eqb-true, false≢true}
use Rattle.std.specs.declared.sync.Arc.{Arc}
use Rattle.hm_types.specs.declared.interfaces.Interface.{Interface}
use Rattle.std.specs.List.{flat_map}
use Rattle.hm_store.specs.declared.record.Act.{Act}
use Rattle.hm_store.specs.declared.record.Act.TheVariants.{Job, Done, Publish, Fail, Stop, Look}
use Rattle.hm_store.specs.declared.record.Call.{Call}
use Rattle.hm_store.specs.declared.record.Record.{Record}
use Rattle.hm_build_reports.specs.Rounds.{Deed, Claimed, Found, Settled, Left, Other, deed, deeds, round, IsInRounds, IsWorked}

looked : (is : List ℕ) (n : ℕ) (left behind : List Deed) → n < length is → left ≡ Found (get_or is n 0) ∷ behind → map Found (take n is) ++ left ≡ map Found (take (suc n) is) ++ behind
looked [] n left behind l here = absurd (omega (arith, l))
looked (j ∷ is) zero left behind l here = here
looked (j ∷ is) (suc n) left behind l here = ap (λ ds. Found j ∷ ds) (looked is n left behind (omega (arith, l)) here)

-- the first of some calls
pub first : (left behind : List Call) (c : Call) (d : Deed) → left ≡ c ∷ behind → deed c.act ≡ d → deeds left ≡ d ∷ deeds behind
first left behind c d split is = ap deeds split ∙ ap (λ x. x ∷ deeds behind) is

-- one look more
pub one_more : (is : List ℕ) (n : ℕ) (calls left behind : List Call) (c : Call) → deeds calls ≡ map Found (take n is) ++ deeds left → n < length is → left ≡ c ∷ behind → deed c.act ≡ Found (get_or is n 0) → deeds calls ≡ map Found (take (n + 1) is) ++ deeds behind
one_more is n calls left behind c so_far l split found =
    let more : suc n ≡ n + 1 = omega arith in
    so_far ∙ looked is n (deeds left) (deeds behind) l (first left behind c (Found (get_or is n 0)) split found) ∙ ap (λ k. map Found (take k is) ++ deeds behind) more

-- a look that found something
pub found_by : (a : Act) (i n : ℕ) (o : Option (Arc Interface Global)) (b : Bool) → a ≡ Look i o → i ≡ n → is_some o ≡ not b → b ≡ false → deed a ≡ Found n
unfolding deed
found_by a i n None b is at some none = absurd (false≢true (some ∙ ap not none))
found_by a i n (Some f) b is at some none = ap deed is ∙ ap Found at

-- behind the looks a publication or a failure
pub closing : (row : List ℕ) (m : ℕ) (calls left behind : List Call) (c : Call) → deeds calls ≡ map Found row ++ deeds left → left ≡ c ∷ behind → deed c.act ≡ Settled m → deeds calls ≡ map Found row ++ (Settled m ∷ deeds behind)
closing row m calls left behind c so_far split settled = so_far ∙ ap (λ ds. map Found row ++ ds) (first left behind c (Settled m) split settled)

-- nothing behind a claim that is told that nothing is left
pub last : (left behind : List Call) (c : Call) → left ≡ c ∷ behind → deed c.act ≡ Left → (length behind == 0) ≡ true → deeds left ≡ Left ∷ []
last left [] c split is none = first left [] c Left split is
last left (x ∷ behind) c split is none = let no_calls : length (x ∷ behind) ≡ 0 = eqb-true (length (x ∷ behind)) 0 none in absurd (omega (arith, no_calls))

-- one round more: what the rounds behind it come to, all come to
pub onward : (plan : List (List ℕ)) (m : ℕ) (left rest : List Deed) (W : Type 0) → ((ms : List ℕ) → left ≡ flat_map (round plan) ms ++ (Left ∷ []) → W) → left ≡ Claimed m ∷ (map Found (slice_index_or plan m []) ++ (Settled m ∷ rest)) → (ms : List ℕ) → rest ≡ flat_map (round plan) ms ++ (Left ∷ []) → W
onward plan m left rest W so_far here ms is =
    let row = map Found (slice_index_or plan m []) in
    let rounds = flat_map (round plan) ms in
    let all : left ≡ flat_map (round plan) (m ∷ ms) ++ (Left ∷ []) =
    here ∙ ap (λ l. Claimed m ∷ (row ++ (Settled m ∷ l))) is ∙ ap (λ l. Claimed m ∷ l) (sym (append_assoc row (Settled m ∷ []) (rounds ++ (Left ∷ []))) ∙ sym (append_assoc (row ++ (Settled m ∷ [])) rounds (Left ∷ []))) in
    so_far (m ∷ ms) all

tail : List Deed → List Deed
tail [] = []
tail (d ∷ ds) = ds

-- the number in a deed
number_in : Deed → ℕ
number_in (Claimed m) = m
number_in (Found m) = m
number_in (Settled m) = m
number_in Left = 0
number_in Other = 0

head : List Deed → Deed
head [] = Other
head (d ∷ ds) = d

-- looks that were made are the first of those that are to be made
pub next_look : (is : List ℕ) (n : ℕ) (calls left behind : List Deed) → n < length is → calls ≡ map Found (take n is) ++ left → calls ≡ map Found is ++ behind → (rest : List Deed) × (left ≡ Found (get_or is n 0) ∷ rest)
unfolding tail
next_look [] n calls left behind l made all = absurd (omega (arith, l))
next_look (j ∷ is) zero calls left behind l made all = (map Found is ++ behind, sym made ∙ all)
next_look (j ∷ is) (suc n) calls left behind l made all = next_look is n (tail calls) left behind (omega (arith, l)) (ap tail made) (ap tail all)

-- no further look was made
pub no_look : (is : List ℕ) (n : ℕ) (calls behind : List Deed) → n < length is → calls ≡ map Found (take n is) ++ [] → ¬ (calls ≡ map Found is ++ behind)
no_look is n calls behind l made all = let more = next_look is n calls [] behind l made all in absurd (cc (more.1))

-- the next call is no look at the next module
pub other_look : (is : List ℕ) (n : ℕ) (calls behind : List Deed) (left rest : List Call) (c : Call) → n < length is → calls ≡ map Found (take n is) ++ deeds left → left ≡ c ∷ rest → deed c.act ≢ Found (get_or is n 0) → ¬ (calls ≡ map Found is ++ behind)
unfolding head
other_look is n calls behind left rest c l made split isnt all = let more = next_look is n calls (deeds left) behind l made all in isnt (ap head (sym (ap deeds split) ∙ more.1))

-- a call that is no look
pub no_look_by : (a : Act) (n : ℕ) → ((i : ℕ) (o : Option (Arc Interface Global)) → a ≢ Look i o) → deed a ≢ Found n
unfolding deed
no_look_by (Job m) n isnt e = absurd (cc e)
no_look_by Done n isnt e = absurd (cc e)
no_look_by (Publish m) n isnt e = absurd (cc e)
no_look_by (Fail m) n isnt e = absurd (cc e)
no_look_by (Stop b) n isnt e = absurd (cc e)
no_look_by (Look i o) n isnt e = isnt i o refl

-- a look at another module
pub looks_elsewhere : (a : Act) (i n : ℕ) (o : Option (Arc Interface Global)) → a ≡ Look i o → i ≢ n → deed a ≢ Found n
unfolding deed number_in
looks_elsewhere a i n None is ne e = let f : Other ≡ Found n = sym (ap deed is) ∙ e in absurd (cc f)
looks_elsewhere a i n (Some f) is ne e = ne (ap number_in (sym (ap deed is) ∙ e))

-- a look that found nothing
pub looks_in_vain : (a : Act) (i n : ℕ) (o : Option (Arc Interface Global)) (b : Bool) → a ≡ Look i o → is_some o ≡ not b → b ≡ true → deed a ≢ Found n
unfolding deed
looks_in_vain a i n None b is some none e = let f : Other ≡ Found n = sym (ap deed is) ∙ e in absurd (cc f)
looks_in_vain a i n (Some f) b is some none e = absurd (false≢true (sym (ap not none) ∙ sym some))

-- what follows the same looks is the same
pub same_rest : (row : List ℕ) (a b : List Deed) → map Found row ++ a ≡ map Found row ++ b → a ≡ b
unfolding tail
same_rest [] a b e = e
same_rest (j ∷ row) a b e = same_rest row a b (ap tail e)

-- the looks are followed by another call than the module's publication or failure
pub open_check : (row : List ℕ) (m : ℕ) (calls behind : List Deed) (left rest : List Call) (c : Call) → calls ≡ map Found row ++ deeds left → left ≡ c ∷ rest → deed c.act ≢ Settled m → ¬ (calls ≡ map Found row ++ (Settled m ∷ behind))
unfolding head
open_check row m calls behind left rest c made split isnt all = isnt (ap head (sym (ap deeds split) ∙ same_rest row (deeds left) (Settled m ∷ behind) (sym made ∙ all)))

-- a publication or a failure of another module
pub settles_elsewhere : (a : Act) (i m : ℕ) → deed a ≡ Settled i → i ≢ m → deed a ≢ Settled m
unfolding number_in
settles_elsewhere a i m is ne e = ne (ap number_in (sym is ∙ e))

-- a call that is neither
pub settles_nothing : (a : Act) (m : ℕ) → ((i : ℕ) → a ≢ Publish i) → ((i : ℕ) → a ≢ Fail i) → deed a ≢ Settled m
unfolding deed
settles_nothing (Job k) m nop nof e = absurd (cc e)
settles_nothing Done m nop nof e = absurd (cc e)
settles_nothing (Publish k) m nop nof e = nop k refl
settles_nothing (Fail k) m nop nof e = nof k refl
settles_nothing (Stop b) m nop nof e = absurd (cc e)
settles_nothing (Look i None) m nop nof e = absurd (cc e)
settles_nothing (Look i (Some f)) m nop nof e = absurd (cc e)

-- the rounds of some modules, and then a claim to which nothing is left
abbrev pub IsTail : List (List ℕ) → List Deed → Type 0
IsTail plan ds = (ms : List ℕ) × (ds ≡ flat_map (round plan) ms ++ (Left ∷ []))

pub not_none : (plan : List (List ℕ)) → ¬ (IsTail plan [])
unfolding head
not_none plan ([], e) = let f : Other ≡ Left = ap head e in absurd (cc f)
not_none plan (m ∷ ms, e) = let f : Other ≡ Claimed m = ap head e in absurd (cc f)

-- after the claim to which nothing is left, there is no call
pub after_left : (plan : List (List ℕ)) (ds : List Deed) → IsTail plan (Left ∷ ds) → ds ≡ []
unfolding head tail
after_left plan ds ([], e) = ap tail e
after_left plan ds (m ∷ ms, e) = let f : Left ≡ Claimed m = ap head e in absurd (cc f)

-- after a claim that got a module, there is the rest of its round
pub after_claimed : (plan : List (List ℕ)) (m : ℕ) (ds : List Deed) → IsTail plan (Claimed m ∷ ds) → (rest : List Deed) × (ds ≡ map Found (slice_index_or plan m []) ++ (Settled m ∷ rest)) × IsTail plan rest
unfolding head tail number_in
after_claimed plan m ds ([], e) = let f : Claimed m ≡ Left = ap head e in absurd (cc f)
after_claimed plan m ds (k ∷ ms, e) =
    let same : k ≡ m = sym (ap (λ l. number_in (head l)) e) in
    let rest = flat_map (round plan) ms ++ (Left ∷ []) in
    let row = λ (j : ℕ). map Found (slice_index_or plan j []) in
    let all : ds ≡ row k ++ (Settled k ∷ rest) = ap tail e ∙ (append_assoc (row k ++ (Settled k ∷ [])) (flat_map (round plan) ms) (Left ∷ []) ∙ append_assoc (row k) (Settled k ∷ []) rest) in
    (rest, all ∙ ap (λ j. row j ++ (Settled j ∷ rest)) same, (ms, refl))

-- any other call begins no round
pub no_round : (plan : List (List ℕ)) (d : Deed) (ds : List Deed) → d ≢ Left → ((m : ℕ) → d ≢ Claimed m) → ¬ (IsTail plan (d ∷ ds))
unfolding head
no_round plan d ds left claim ([], e) = left (ap head e)
no_round plan d ds left claim (m ∷ ms, e) = claim m (ap head e)

-- a record with calls that aren't worked isn't in rounds
pub not_in_rounds : (plan : List (List ℕ)) (r : Record) → r.calls.items ≢ [] → ¬ (IsWorked plan r.calls.items) → IsTrue false ↔ IsInRounds plan r
not_in_rounds plan r some unworked = (λ f. absurd (false≢true f), λ is. absurd (⊎_elim (λ e. some e) (λ w. unworked w) is))

-- the last claim is the last call
pub done_last : (plan : List (List ℕ)) (r : Record) (left behind : List Call) (c : Call) (b : Bool) → r.calls.items ≢ [] → ((ms : List ℕ) → deeds left ≡ flat_map (round plan) ms ++ (Left ∷ []) → IsWorked plan r.calls.items) → (IsWorked plan r.calls.items → IsTail plan (deeds left))
    → left ≡ c ∷ behind → deed c.act ≡ Left → b ≡ (length behind == 0) → IsTrue b ↔ IsInRounds plan r
done_last plan r left behind c b some onward back split is none = (
  λ t. inr (onward [] (last left behind c split is (sym none ∙ t))),
  λ in_rounds. none ∙ no_calls behind (after_left plan (deeds behind) (subst (IsTail plan) (first left behind c Left split is) (back (⊎_elim (λ e. absurd (some e)) (λ w. w) in_rounds)))),
)
  where
    no_calls : (cs : List Call) → deeds cs ≡ [] → (length cs == 0) ≡ true
    no_calls [] e = refl
    no_calls (x ∷ cs) e = absurd (cc e)

-- after a claimed module without its round, the calls aren't worked
pub broken_round : (plan : List (List ℕ)) (m : ℕ) (left behind : List Call) (c : Call) → left ≡ c ∷ behind → deed c.act ≡ Claimed m → ((rest : List Deed) → ¬ (deeds behind ≡ map Found (slice_index_or plan m []) ++ (Settled m ∷ rest))) → ¬ (IsTail plan (deeds left))
broken_round plan m left behind c split is broken tail_is = let more = after_claimed plan m (deeds behind) (subst (IsTail plan) (first left behind c (Claimed m) split is) tail_is) in broken more.0 more.1

-- after a round, the rest is worked if all is
pub next_round : (plan : List (List ℕ)) (m : ℕ) (left behind rest : List Call) (c : Call) → left ≡ c ∷ behind → deed c.act ≡ Claimed m → deeds behind ≡ map Found (slice_index_or plan m []) ++ (Settled m ∷ deeds rest) → IsTail plan (deeds left) → IsTail plan (deeds rest)
unfolding tail
next_round plan m left behind rest c split is here tail_is =
    let more = after_claimed plan m (deeds behind) (subst (IsTail plan) (first left behind c (Claimed m) split is) tail_is) in
    subst (IsTail plan) (sym (ap tail (same_rest (slice_index_or plan m []) (Settled m ∷ deeds rest) (Settled m ∷ more.0) (sym here ∙ more.1)))) more.2

not_left : (a : Act) → a ≢ Done → deed a ≢ Left
unfolding deed
not_left (Job m) isnt e = absurd (cc e)
not_left Done isnt e = isnt refl
not_left (Publish m) isnt e = absurd (cc e)
not_left (Fail m) isnt e = absurd (cc e)
not_left (Stop b) isnt e = absurd (cc e)
not_left (Look i None) isnt e = absurd (cc e)
not_left (Look i (Some f)) isnt e = absurd (cc e)

not_claimed : (a : Act) → ((m : ℕ) → a ≢ Job m) → (m : ℕ) → deed a ≢ Claimed m
unfolding deed
not_claimed (Job k) isnt m e = isnt k refl
not_claimed Done isnt m e = absurd (cc e)
not_claimed (Publish k) isnt m e = absurd (cc e)
not_claimed (Fail k) isnt m e = absurd (cc e)
not_claimed (Stop b) isnt m e = absurd (cc e)
not_claimed (Look i None) isnt m e = absurd (cc e)
not_claimed (Look i (Some f)) isnt m e = absurd (cc e)

-- a call that is no claim begins no round
pub no_claim : (plan : List (List ℕ)) (left behind : List Call) (c : Call) → left ≡ c ∷ behind → ((m : ℕ) → c.act ≢ Job m) → c.act ≢ Done → ¬ (IsTail plan (deeds left))
no_claim plan left behind c split nojob nodone tail_is = no_round plan (deed c.act) (deeds behind) (not_left c.act nodone) (not_claimed c.act nojob) (subst (IsTail plan) (first left behind c (deed c.act) split refl) tail_is)

-- a list that has calls
pub has_calls : (cs all : List Call) (b : Bool) → all ≡ cs → b ≡ (length all == 0) → b ≡ false → cs ≢ []
has_calls [] all b same is none e = absurd (false≢true (sym none ∙ (is ∙ ap (λ xs. length xs == 0) same)))
has_calls (c ∷ cs) all b same is none e = absurd (cc e)

-- no call is left, without a last claim
pub none_left : (plan : List (List ℕ)) (left : List Call) → length left ≡ 0 → ¬ (IsTail plan (deeds left))
none_left plan [] none is = not_none plan is
none_left plan (c ∷ left) none is = absurd (omega (arith, none))
