-- The steps keep the rule.
use Rattle.std.proofs.Common.{◌≡◌, ◌≢◌, ℕ, zero, suc, ◌+◌, ◌<◌, ◌≤◌, ◌==◌, Bool, true, false, cond, eqb, eq-eqb, ne_eqb, length, Option, Some, None, List, [], ◌∷◌, ◌++◌, ◌⊎◌, inl, inr, ⊎_elim, set, refl, ap, sym, subst, ◌∙◌, arith, append-nil}
use mathlib.Core.Option.{none, some, some-injective, some-ne-none}
use mathlib.Core.List.{IsPrefix}
use lib.ListN.{get_elem?}
use Rattle.std.specs.List.{slice_index}
use Rattle.std.proofs.lemmas.Bool.{cases_eq}
use Rattle.std.proofs.lemmas.List.Elements.{filter-append}
use Rattle.atomic_table.specs.Table.{State, Me, Step, keeps, step, Allows, Splits, Joins}
use Rattle.atomic_table.proofs.Lists.{at_set, set_again, set_else, at_longer, at_snoc}
use Rattle.hm_store_journal.specs.Entries.{by, is_by, writer_of}
use Rattle.hm_store.specs.declared.object.Entry.{Entry}
use Rattle.hm_store_journal.specs.declared.rule.View.{View}
use Rattle.hm_store_journal.specs.Rules.{Appends, AreApart, AreFresh, AreHired, AreOwned, Compares, Hires, IsKept, MayCome, Own, copy, grown, joined, nothing, opened, view, with_own, without_own}
use Rattle.hm_store_journal.proofs.Beginnings.{begins_itself, begins_more, begins_through}

abbrev rows : List ℕ → State Entry View → List View → State Entry View
rows ws s vs = record { words = ws; homes = s.homes; views = vs }

-- the view of the lock is view 0, and it is the top
at_main : (s : State Entry View) (h : IsKept s) (id : ℕ) (v : View) → get_elem? s.views id ≡ some v → v.main ≡ true → (id ≡ 0) × (v ≡ h.top)
at_main s h id v at m =
    let zero_is : id ≡ 0 = h.alone id v at m in
    (zero_is, some-injective v h.top (sym at ∙ (ap (get_elem? s.views) zero_is ∙ h.here)))

set_at : (l : List View) (v w : View) → get_elem? l 0 ≡ some v → get_elem? (set l 0 w) 0 ≡ some w
set_at [] v w e = absurd (some-ne-none v (sym e))
set_at (x ∷ xs) v w e = refl

at_end : (l : List View) (a b : View) (j : ℕ) → get_elem? (l ++ a ∷ []) j ≡ some b → (get_elem? l j ≡ some b) ⊎ ((j ≡ length l) × (a ≡ b))
at_end [] a b zero e = inr (refl, some-injective a b e)
at_end [] a b (suc j) e = absurd (some-ne-none b (sym e))
at_end (x ∷ xs) a b zero e = inl e
at_end (x ∷ xs) a b (suc j) e = ⊎_elim (λ t. inl t) (λ t. inr (ap suc t.0, t.1)) (at_end xs a b j e)

nothing_before : (xs : List Entry) → IsPrefix [] xs
nothing_before xs = (xs, refl)

-- Entries of a worker

by_more : (w : ℕ) (es : List Entry) (e : Entry) → by w (es ++ e ∷ []) ≡ by w es ++ by w (e ∷ [])
by_more w es e = filter-append (is_by w) es (e ∷ [])

by_its : (w : ℕ) (es : List Entry) (e : Entry) → writer_of e ≡ w → by w (es ++ e ∷ []) ≡ by w es ++ e ∷ []
by_its w es e is = by_more w es e ∙ ap (λ b. by w es ++ cond b (e ∷ []) []) (eq-eqb (writer_of e) w is)

by_another : (w : ℕ) (es : List Entry) (e : Entry) → writer_of e ≢ w → by w (es ++ e ∷ []) ≡ by w es
by_another w es e ne = by_more w es e ∙ (ap (λ b. by w es ++ cond b (e ∷ []) []) (ne_eqb (writer_of e) w ne) ∙ append-nil (by w es))

abbrev pair : ℕ → List Entry → Own
pair w es = Some (w, es)

abbrev worker_in : Own → ℕ
worker_in None = 0
worker_in (Some c) = c.0

abbrev entries_in : Own → List Entry
entries_in None = []
entries_in (Some c) = c.1

none_some : (o : Own) (w : ℕ) (es : List Entry) → o ≡ None → o ≡ Some (w, es) → ⊥
none_some o w es e f = let g : None ≡ Some (w, es) = sym e ∙ f in absurd (cc g)

same_worker : (v w : ℕ) (es fs : List Entry) → pair v es ≡ pair w fs → v ≡ w
same_worker v w es fs e = ap worker_in e

same_entries : (v w : ℕ) (es fs : List Entry) → pair v es ≡ pair w fs → es ≡ fs
same_entries v w es fs e = ap entries_in e

-- Where the view of a worker comes from: the one at k was at i before, and k is F i

abbrev Origin : List View → (ℕ → ℕ) → ℕ → ℕ → Type 0
Origin vs F k w = (i : ℕ) × (u : View) × (es : List Entry) × (get_elem? vs i ≡ some u) × (u.own ≡ Some (w, es)) × (k ≡ F i)

abbrev Comes : List View → (ℕ → ℕ) → List View → Type 0
Comes vs F after = (k : ℕ) (x : View) (w : ℕ) (es : List Entry) → get_elem? after k ≡ some x → x.own ≡ Some (w, es) → Origin vs F k w

abbrev Stays : List View → List View → Type 0
Stays vs after = (k : ℕ) (x : View) (w : ℕ) (es : List Entry) → get_elem? after k ≡ some x → x.own ≡ Some (w, es) → (i : ℕ) × (u : View) × (get_elem? vs i ≡ some u) × (u.own ≡ Some (w, es))

apart_by : (vs : List View) (F : ℕ → ℕ) (after : List View) → Comes vs F after → AreApart vs → AreApart after
apart_by vs F after from h j k u v w es fs atj atk cj ck =
    let a = from j u w es atj cj in
    let b = from k v w fs atk ck in
    a.5 ∙ (ap F (h a.0 b.0 a.1 b.1 w a.2 b.2 a.3 b.3 a.4 b.4) ∙ sym b.5)

hired_by : (vs : List View) (F : ℕ → ℕ) (after : List View) (n : ℕ) → Comes vs F after → AreHired vs n → AreHired after n
hired_by vs F after n from h k v w es at is = let a = from k v w es at is in h a.0 a.1 w a.2 a.3 a.4

owned_by : (vs : List View) (after : List View) (all : List Entry) → Stays vs after → AreOwned vs all → AreOwned after all
owned_by vs after all from h k v w es at is = let a = from k v w es at is in h a.0 a.1 w es a.2 a.3

-- An entry more

module _ (vs : List View) (v : View) (here : get_elem? vs 0 ≡ some v) (e : Entry) (old : List Entry) (its : v.own ≡ Some (writer_of e, old)) (w : View) (own : w.own ≡ Some (writer_of e, old ++ e ∷ [])) where
  append_comes : Comes vs (λ i. i) (set vs 0 w)
  append_comes k x y es at is =
      ⊎_elim
      (λ t. (0, v, old, here, its ∙ ap (λ z. pair z old) (same_worker (writer_of e) y (old ++ e ∷ []) es (sym own ∙ (ap (λ (z : View). z.own) t.1 ∙ is))), t.0))
      (λ t. (k, x, es, t.1, is, refl)) (at_set vs 0 k w x at)

  append_owned : AreOwned vs v.seen → AreApart vs → AreOwned (set vs 0 w) (v.seen ++ e ∷ [])
  append_owned owned apart k x y es at is =
      ⊎_elim
      (λ t. let same : pair (writer_of e) (old ++ e ∷ []) ≡ pair y es = sym own ∙ (ap (λ (z : View). z.own) t.1 ∙ is) in
      let mine : writer_of e ≡ y = same_worker (writer_of e) y (old ++ e ∷ []) es same in
      let all : old ++ e ∷ [] ≡ es = same_entries (writer_of e) y (old ++ e ∷ []) es same in
      by_its y v.seen e mine ∙ (ap (λ xs. xs ++ e ∷ []) (owned 0 v y old here (its ∙ ap (λ z. pair z old) mine)) ∙ all))
      (λ t. let apart_is : writer_of e ≢ y = λ eq. t.0 (apart k 0 x v y es old t.1 here is (its ∙ ap (λ z. pair z old) eq)) in
      by_another y v.seen e apart_is ∙ owned k x y es t.1 is) (at_set vs 0 k w x at)

  append_fresh : (n : ℕ) → AreHired vs n → AreFresh v.seen n → AreFresh (v.seen ++ e ∷ []) n
  append_fresh n hired fresh y le =
      let lt : writer_of e < n = hired 0 v (writer_of e) old here its in
      by_another y v.seen e (λ eq. omega (arith, lt, le, eq)) ∙ fresh y le

-- view 0 becomes another, of which the old list is a prefix
kept_top : (s : State Entry View) (h : IsKept s) (ws : List ℕ) (w : View) → w.main ≡ true → IsPrefix h.top.seen w.seen → IsPrefix w.told w.seen
    → AreOwned (set s.views 0 w) w.seen → AreApart (set s.views 0 w) → AreHired (set s.views 0 w) w.hired → AreFresh w.seen w.hired → IsKept (rows ws s (set s.views 0 w))
kept_top s h ws w m more told owned apart hired fresh = record {
  top = w;
  here = set_at s.views h.top w h.here;
  main = m;
  alone = λ k v at yes. ⊎_elim (λ t. t.0) (λ t. h.alone k v t.1 yes) (at_set s.views 0 k w v at);
  seen = λ k v at. ⊎_elim (λ t. subst (λ (x : View). IsPrefix x.seen w.seen) t.1 (begins_itself w.seen)) (λ t. begins_through v.seen h.top.seen w.seen (h.seen k v t.1) more) (at_set s.views 0 k w v at);
  told = λ k v at. ⊎_elim (λ t. subst (λ (x : View). IsPrefix x.told w.seen) t.1 told) (λ t. begins_through v.told h.top.seen w.seen (h.told k v t.1) more) (at_set s.views 0 k w v at);
  owned = owned;
  apart = apart;
  hired = hired;
  fresh = fresh;
}

grown_is : (o : Own) (e : Entry) (es : List Entry) → o ≡ Some (writer_of e, es) → grown o e ≡ Some (writer_of e, es ++ e ∷ [])
grown_is o e es is = ap (λ (x : Own). grown x e) is

appends_here : (s : State Entry View) (h : IsKept s) (ws : List ℕ) (v : View) (e : Entry) → v ≡ h.top → v.main ≡ true → MayCome v e
    → IsKept (rows ws s (set s.views 0 (view v.main (v.seen ++ e ∷ []) [] v.hired (grown v.own e))))
appends_here s h ws v e is m may =
    let old : List Entry = may.0 in
    let its : v.own ≡ Some (writer_of e, old) = may.1 in
    let w : View = view v.main (v.seen ++ e ∷ []) [] v.hired (grown v.own e) in
    let own : w.own ≡ Some (writer_of e, old ++ e ∷ []) = grown_is v.own e old its in
    let here : get_elem? s.views 0 ≡ some v = h.here ∙ ap some (sym is) in
    let owned : AreOwned s.views v.seen = subst (λ (x : View). AreOwned s.views x.seen) (sym is) h.owned in
    let hired : AreHired s.views v.hired = subst (λ (x : View). AreHired s.views x.hired) (sym is) h.hired in
    let fresh : AreFresh v.seen v.hired = subst (λ (x : View). AreFresh x.seen x.hired) (sym is) h.fresh in
    let more : IsPrefix h.top.seen w.seen = subst (λ (x : View). IsPrefix x.seen w.seen) is (begins_more v.seen (e ∷ [])) in
    let from = append_comes s.views v here e old its w own in
    kept_top s h ws w m more (nothing_before w.seen) (append_owned s.views v here e old its w own owned h.apart) (apart_by s.views (λ i. i) (set s.views 0 w) from h.apart)
    (hired_by s.views (λ i. i) (set s.views 0 w) v.hired from hired) (append_fresh s.views v here e old its w own v.hired hired fresh)

pub appends : (slots : ℕ) (id : ℕ) (me : Me Entry View) (e : Entry) (f : ℕ → ℕ) → me.0.main ≡ true → MayCome me.0 e → Allows IsKept slots id me 0 f (Appends (step slots 0 0 0 (some e)) me)
appends slots id me e f m may s h len at small =
    let w : View = view me.0.main (me.0.seen ++ e ∷ []) [] me.0.hired (grown me.0.own e) in
    let found = at_main s h id me.0 at m in
    let ws : List ℕ = set s.words 0 (f (slice_index s.words 0)) in
    (w, keeps, tt, subst (λ i. IsKept (rows ws s (set s.views i w))) (sym found.0) (appends_here s h ws me.0 e found.1 m may), (e, refl, refl))

-- A worker more

hires_here : (s : State Entry View) (h : IsKept s) (ws : List ℕ) (v : View) → v ≡ h.top → v.main ≡ true → v.own ≡ None → IsKept (rows ws s (set s.views 0 (view v.main v.seen [] (v.hired + 1) (Some (v.hired, [])))))
hires_here s h ws v is m free =
    let w : View = view v.main v.seen [] (v.hired + 1) (Some (v.hired, [])) in
    let here : get_elem? s.views 0 ≡ some v = h.here ∙ ap some (sym is) in
    let owned : AreOwned s.views v.seen = subst (λ (x : View). AreOwned s.views x.seen) (sym is) h.owned in
    let hired : AreHired s.views v.hired = subst (λ (x : View). AreHired s.views x.hired) (sym is) h.hired in
    let fresh : AreFresh v.seen v.hired = subst (λ (x : View). AreFresh x.seen x.hired) (sym is) h.fresh in
    let more : IsPrefix h.top.seen w.seen = subst (λ (x : View). IsPrefix x.seen w.seen) is (begins_itself v.seen) in
    let its : (x : View) (y : ℕ) (es : List Entry) → w ≡ x → x.own ≡ Some (y, es) → pair v.hired [] ≡ pair y es = λ x y es t o. ap (λ (z : View). z.own) t ∙ o in
    kept_top s h ws w m more (nothing_before w.seen)
    (λ k x y es at o. ⊎_elim
    (λ t. let same = its x y es t.1 o in
    ap (λ n. by n v.seen) (sym (same_worker v.hired y [] es same)) ∙ (fresh v.hired (omega arith) ∙ same_entries v.hired y [] es same))
    (λ t. owned k x y es t.1 o) (at_set s.views 0 k w x at))
    (λ j k a b y es fs atj atk cj ck. ⊎_elim
    (λ p. ⊎_elim (λ t. p.0 ∙ sym t.0)
    (λ t. let n : v.hired ≡ y = same_worker v.hired y [] es (its a y es p.1 cj) in let lt : y < v.hired = hired k b y fs t.1 ck in absurd (omega (arith, n, lt))) (at_set s.views 0 k w b atk))
    (λ p. ⊎_elim (λ t. let n : v.hired ≡ y = same_worker v.hired y [] fs (its b y fs t.1 ck) in let lt : y < v.hired = hired j a y es p.1 cj in absurd (omega (arith, n, lt)))
    (λ t. h.apart j k a b y es fs p.1 t.1 cj ck) (at_set s.views 0 k w b atk))
    (at_set s.views 0 j w a atj))
    (λ k x y es at o. ⊎_elim
    (λ t. let n : v.hired ≡ y = same_worker v.hired y [] es (its x y es t.1 o) in omega (arith, n))
    (λ t. let lt : y < v.hired = hired k x y es t.1 o in omega (arith, lt)) (at_set s.views 0 k w x at))
    (λ y le. fresh y (omega (arith, le)))

pub hires : (slots : ℕ) (id : ℕ) (me : Me Entry View) → me.0.main ≡ true → me.0.own ≡ None → Allows IsKept slots id me 0 (λ n. n) (Hires (step slots 0 0 0 none) me)
hires slots id me m free s h len at small =
    let w : View = view me.0.main me.0.seen [] (me.0.hired + 1) (Some (me.0.hired, [])) in
    let found = at_main s h id me.0 at m in
    let ws : List ℕ = set s.words 0 (slice_index s.words 0) in
    let none_yet : by me.0.hired me.0.seen ≡ [] = subst (λ (x : View). AreFresh x.seen x.hired) (sym found.1) h.fresh me.0.hired (omega arith) in
    (w, keeps, tt, subst (λ i. IsKept (rows ws s (set s.views i w))) (sym found.0) (hires_here s h ws me.0 found.1 m free), (none_yet, refl))

-- The same views

again : (s : State Entry View) (h : IsKept s) (ws : List ℕ) → IsKept (rows ws s s.views)
again s h ws = record { top = h.top; here = h.here; main = h.main; alone = h.alone; seen = h.seen; told = h.told; owned = h.owned; apart = h.apart; hired = h.hired; fresh = h.fresh }

pub compares : (slots : ℕ) (id : ℕ) (me : Me Entry View) → me.0.main ≡ true → Allows IsKept slots id me 0 (λ n. n) (Compares (step slots 0 0 0 none) me)
compares slots id me m s h len at small =
    let found = at_main s h id me.0 at m in
    let told : IsPrefix me.0.told me.0.seen = subst (λ (x : View). IsPrefix me.0.told x.seen) (sym found.1) (h.told id me.0 at) in
    let ws : List ℕ = set s.words 0 (slice_index s.words 0) in
    let own : (x : ℕ) (es : List Entry) → me.0.own ≡ Some (x, es) → by x me.0.seen ≡ es = λ x es is. subst (λ (v : View). by x v.seen ≡ es) (sym found.1) (h.owned id me.0 x es at is) in
    (me.0, keeps, tt, subst (λ vs. IsKept (rows ws s vs)) (sym (set_again s.views id me.0 at)) (again s h ws), (told, own, refl))

-- One view more, without the lock's right

kept_more : (s : State Entry View) (h : IsKept s) (vs : List View) (x top : View) (F : ℕ → ℕ) → get_elem? vs 0 ≡ some top → top.main ≡ true → top.seen ≡ h.top.seen → top.hired ≡ h.top.hired
    → ((k : ℕ) (v : View) → get_elem? vs k ≡ some v → v.main ≡ true → k ≡ 0) → ((k : ℕ) (v : View) → get_elem? vs k ≡ some v → IsPrefix v.seen top.seen × IsPrefix v.told top.seen)
    → x.main ≡ false → IsPrefix x.seen top.seen → IsPrefix x.told top.seen → Comes s.views F (vs ++ x ∷ []) → Stays s.views (vs ++ x ∷ []) → IsKept (rows s.words s (vs ++ x ∷ []))
kept_more s h vs x top F here m same number alone each off seen told from stays = record {
  top = top;
  here = at_longer vs (x ∷ []) 0 top here;
  main = m;
  alone = λ k v got yes. ⊎_elim (λ e. alone k v e yes) (λ e. let y : x.main ≡ true = ap (λ (z : View). z.main) e ∙ yes in absurd (cc (off, y))) (at_snoc vs x v k got);
  seen = λ k v got. ⊎_elim (λ e. (each k v e).0) (λ e. subst (λ (z : View). IsPrefix z.seen top.seen) e seen) (at_snoc vs x v k got);
  told = λ k v got. ⊎_elim (λ e. (each k v e).1) (λ e. subst (λ (z : View). IsPrefix z.told top.seen) e told) (at_snoc vs x v k got);
  owned = subst (AreOwned (vs ++ x ∷ [])) (sym same) (owned_by s.views (vs ++ x ∷ []) h.top.seen stays h.owned);
  apart = apart_by s.views F (vs ++ x ∷ []) from h.apart;
  hired = subst (AreHired (vs ++ x ∷ [])) (sym number) (hired_by s.views F (vs ++ x ∷ []) h.top.hired from h.hired);
  fresh = subst (λ n. AreFresh top.seen n) (sym number) (subst (λ all. AreFresh all h.top.hired) (sym same) h.fresh);
}

pub tells : (id : ℕ) (v : View) → Splits IsKept id v v (copy v)
tells id v s h at =
    let stays : (k : ℕ) (x : View) (w : ℕ) (es : List Entry) → get_elem? (s.views ++ copy v ∷ []) k ≡ some x → x.own ≡ Some (w, es) → get_elem? s.views k ≡ some x = λ k x w es got is.
    ⊎_elim (λ e. e) (λ t. absurd (none_some x.own w es (sym (ap (λ (z : View). z.own) t.1)) is)) (at_end s.views (copy v) x k got) in
    subst (λ vs. IsKept (rows s.words s (vs ++ copy v ∷ []))) (sym (set_again s.views id v at))
    (kept_more s h s.views (copy v) h.top (λ i. i) h.here h.main refl refl h.alone (λ k x e. (h.seen k x e, h.told k x e)) refl (h.seen id v at) (nothing_before h.top.seen)
    (λ k x w es got is. (k, x, es, stays k x w es got is, is, refl))
    (λ k x w es got is. (k, x, stays k x w es got is, is)))

-- the lock gives the worker's token away
pub gives : (id : ℕ) (v : View) → v.main ≡ true → IsPrefix v.told v.seen → Splits IsKept id v (without_own v) (with_own v)
gives id v m told s h at =
    let found = at_main s h id v at m in
    let vs : List View = set s.views 0 (without_own v) in
    let here : get_elem? vs 0 ≡ some (without_own v) = set_at s.views h.top (without_own v) h.here in
    let same : v.seen ≡ h.top.seen = ap (λ (z : View). z.seen) found.1 in
    let number : v.hired ≡ h.top.hired = ap (λ (z : View). z.hired) found.1 in
    let was : get_elem? s.views 0 ≡ some v = ap (get_elem? s.views) (sym found.0) ∙ at in
    let F : ℕ → ℕ = λ i. cond (i == 0) (length vs) i in
    let from : Comes s.views F (vs ++ with_own v ∷ []) = λ k x w es got is. ⊎_elim
    (λ e. ⊎_elim (λ t. absurd (none_some x.own w es (sym (ap (λ (z : View). z.own) t.1)) is)) (λ t. (k, x, es, t.1, is, sym (ap (λ b. cond b (length vs) k) (ne_eqb k 0 t.0)))) (at_set s.views 0 k (without_own v) x e))
    (λ t. (0, v, es, was, ap (λ (z : View). z.own) t.1 ∙ is, t.0)) (at_end vs (with_own v) x k got) in
    let stays : Stays s.views (vs ++ with_own v ∷ []) = λ k x w es got is. ⊎_elim
    (λ e. ⊎_elim (λ t. absurd (none_some x.own w es (sym (ap (λ (z : View). z.own) t.1)) is)) (λ t. (k, x, t.1, is)) (at_set s.views 0 k (without_own v) x e))
    (λ t. (0, v, was, ap (λ (z : View). z.own) t.1 ∙ is)) (at_end vs (with_own v) x k got) in
    subst (λ i. IsKept (rows s.words s (set s.views i (without_own v) ++ with_own v ∷ []))) (sym found.0)
    (kept_more s h vs (with_own v) (without_own v) F here m same number
    (λ k x e yes. ⊎_elim (λ t. t.0) (λ t. h.alone k x t.1 yes) (at_set s.views 0 k (without_own v) x e))
    (λ k x e. ⊎_elim (λ t. (subst (λ (z : View). IsPrefix z.seen v.seen) t.1 (begins_itself v.seen), subst (λ (z : View). IsPrefix z.told v.seen) t.1 told))
    (λ t. (subst (IsPrefix x.seen) (sym same) (h.seen k x t.1), subst (IsPrefix x.told) (sym same) (h.told k x t.1))) (at_set s.views 0 k (without_own v) x e))
    refl (begins_itself v.seen) (nothing_before v.seen) from stays)

-- a worker's view is joined to that of the lock, which has none
pub takes : (id : ℕ) (v : View) (other : ℕ) (w : View) → v.main ≡ true → v.own ≡ None → w.main ≡ false → Joins IsKept id v other w (joined v w) nothing
takes id v other w m free off s h at apart got =
    let found = at_main s h id v at m in
    let both : View = joined v w in
    let ne : other ≢ 0 = λ e. apart (e ∙ sym found.0) in
    let old : get_elem? s.views other ≡ some w = sym (set_else s.views id other both apart) ∙ got in
    let same : v.seen ≡ h.top.seen = ap (λ (z : View). z.seen) found.1 in
    let number : v.hired ≡ h.top.hired = ap (λ (z : View). z.hired) found.1 in
    let mid : List View = set s.views 0 both in
    let after : List View = set mid other nothing in
    let here : get_elem? after 0 ≡ some both = set_else mid other 0 nothing (λ e. ne (sym e)) ∙ set_at s.views h.top both h.here in
    let F : ℕ → ℕ = λ i. cond (i == other) 0 i in
    let from : Comes s.views F after = λ k x y es at' is. ⊎_elim
    (λ t. absurd (none_some x.own y es (sym (ap (λ (z : View). z.own) t.1)) is))
    (λ t. ⊎_elim (λ u. (other, w, es, old, ap (λ (z : View). z.own) u.1 ∙ is, u.0 ∙ sym (ap (λ b. cond b 0 other) (eq-eqb other other refl))))
    (λ u. (k, x, es, u.1, is, sym (ap (λ b. cond b 0 k) (ne_eqb k other t.0)))) (at_set s.views 0 k both x t.1))
    (at_set mid other k nothing x at') in
    let stays : Stays s.views after = λ k x y es at' is. ⊎_elim
    (λ t. absurd (none_some x.own y es (sym (ap (λ (z : View). z.own) t.1)) is))
    (λ t. ⊎_elim (λ u. (other, w, old, ap (λ (z : View). z.own) u.1 ∙ is)) (λ u. (k, x, u.1, is)) (at_set s.views 0 k both x t.1))
    (at_set mid other k nothing x at') in
    subst (λ i. IsKept (rows s.words s (set (set s.views i both) other nothing))) (sym found.0) (record {
      top = both;
      here = here;
      main = m;
      alone = λ k x e yes. ⊎_elim (λ t. absurd (let f : nothing.main ≡ true = ap (λ (z : View). z.main) t.1 ∙ yes in cc f)) (λ t. ⊎_elim (λ u. u.0) (λ u. h.alone k x u.1 yes) (at_set s.views 0 k both x t.1)) (at_set mid other k nothing x e);
      seen = λ k x e. ⊎_elim (λ t. subst (λ (z : View). IsPrefix z.seen v.seen) t.1 (nothing_before v.seen))
          (λ t. ⊎_elim (λ u. subst (λ (z : View). IsPrefix z.seen v.seen) u.1 (begins_itself v.seen)) (λ u. subst (IsPrefix x.seen) (sym same) (h.seen k x u.1)) (at_set s.views 0 k both x t.1)) (at_set mid other k nothing x e);
      told = λ k x e. ⊎_elim (λ t. subst (λ (z : View). IsPrefix z.told v.seen) t.1 (nothing_before v.seen))
          (λ t. ⊎_elim (λ u. subst (λ (z : View). IsPrefix z.told v.seen) u.1 (subst (IsPrefix w.seen) (sym same) (h.seen other w old))) (λ u. subst (IsPrefix x.told) (sym same) (h.told k x u.1)) (at_set s.views 0 k both x t.1)) (at_set mid other k nothing x e);
      owned = subst (AreOwned after) (sym same) (owned_by s.views after h.top.seen stays h.owned);
      apart = apart_by s.views F after from h.apart;
      hired = subst (AreHired after) (sym number) (hired_by s.views F after h.top.hired from h.hired);
      fresh = subst (λ n. AreFresh v.seen n) (sym number) (subst (λ all. AreFresh all h.top.hired) (sym same) h.fresh);
    })

one : (k : ℕ) (v : View) → get_elem? (opened ∷ []) k ≡ some v → (k ≡ 0) × (opened ≡ v)
one zero v at = (refl, some-injective opened v at)
one (suc k) v at = absurd (some-ne-none v (sym at))

no_own : (k : ℕ) (v : View) (w : ℕ) (es : List Entry) → get_elem? (opened ∷ []) k ≡ some v → v.own ≡ Some (w, es) → ⊥
no_own k v w es at is = none_some v.own w es (sym (ap (λ (z : View). z.own) (one k v at).1)) is

pub opens : (ws : List ℕ) → IsKept (record { words = ws; homes = []; views = opened ∷ [] })
opens ws = record {
  top = opened;
  here = refl;
  main = refl;
  alone = λ k v at yes. (one k v at).0;
  seen = λ k v at. subst (λ (x : View). IsPrefix x.seen []) (one k v at).1 (nothing_before []);
  told = λ k v at. subst (λ (x : View). IsPrefix x.told []) (one k v at).1 (nothing_before []);
  owned = λ k v w es at is. absurd (no_own k v w es at is);
  apart = λ j k u v w es fs atj atk cj ck. (one j u atj).0 ∙ sym (one k v atk).0;
  hired = λ k v w es at is. absurd (no_own k v w es at is);
  fresh = λ w le. refl;
}

-- after one more entry of a worker, its entries are those before and this one
pub own_more : (w : ℕ) (all es : List Entry) (e : Entry) → writer_of e ≡ w → by w all ≡ es → by w (all ++ e ∷ []) ≡ es ++ e ∷ []
own_more w all es e its is = by_its w all e its ∙ ap (λ xs. xs ++ e ∷ []) is
