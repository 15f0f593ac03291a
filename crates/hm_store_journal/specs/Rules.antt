-- The rule of the list of entries, and its steps. No contract names these.
use Rattle.std.specs.Prelude.{ℕ, ◌≡◌, ◌+◌, ◌<◌, ◌≤◌, Bool, true, false, List, [], ◌∷◌, ◌++◌, Option, Some, None}
use mathlib.Core.Option.{some}
use mathlib.Core.List.{IsPrefix}
use lib.ListN.{get_elem?}
use Rattle.atomic_table.specs.Table.{State, Me, Step}
use Rattle.hm_store_journal.specs.Entries.{by, writer_of}
use Rattle.hm_store.specs.declared.object.Entry.{Entry}
use Rattle.hm_store_journal.specs.declared.rule.View.{View}

-- a worker, and its entries
abbrev pub Own : Type 0
Own = Option (ℕ × List Entry)

abbrev pub view : Bool → List Entry → List Entry → ℕ → Own → View
view main seen told hired own = record { main = main; seen = seen; told = told; hired = hired; own = own }

abbrev pub opened : View
opened = view true [] [] 0 None

abbrev pub nothing : View
nothing = view false [] [] 0 None

abbrev pub copy : View → View
copy v = view false v.seen [] 0 None

abbrev pub without_own : View → View
without_own v = view v.main v.seen v.told v.hired None

abbrev pub with_own : View → View
with_own v = view false v.seen [] 0 v.own

abbrev pub joined : View → View → View
joined v w = view v.main v.seen w.seen v.hired w.own

-- the worker's entries, with one more
abbrev pub grown : Own → Entry → Own
grown None e = None
grown (Some o) e = Some (o.0, o.1 ++ e ∷ [])

-- a view of a worker has all its entries
abbrev pub AreOwned : List View → List Entry → Type 0
AreOwned vs all = (k : ℕ) (v : View) (w : ℕ) (es : List Entry) → get_elem? vs k ≡ some v → v.own ≡ Some (w, es) → by w all ≡ es

-- each worker has one view at most
abbrev pub AreApart : List View → Type 0
AreApart vs = (j k : ℕ) (u v : View) (w : ℕ) (es fs : List Entry) → get_elem? vs j ≡ some u → get_elem? vs k ≡ some v → u.own ≡ Some (w, es) → v.own ≡ Some (w, fs) → j ≡ k

-- the workers that have a view are below this number
abbrev pub AreHired : List View → ℕ → Type 0
AreHired vs n = (k : ℕ) (v : View) (w : ℕ) (es : List Entry) → get_elem? vs k ≡ some v → v.own ≡ Some (w, es) → w < n

-- the other workers have no entry
abbrev pub AreFresh : List Entry → ℕ → Type 0
AreFresh all n = (w : ℕ) → n ≤ w → by w all ≡ []

-- view 0 alone is that of the lock. What each view has seen is a prefix of what the lock has
pub record IsKept (s : State Entry View) : Type 0 where
  pub top : View
  pub here : get_elem? s.views 0 ≡ some top
  pub main : top.main ≡ true
  pub alone : (k : ℕ) (v : View) → get_elem? s.views k ≡ some v → v.main ≡ true → k ≡ 0
  pub seen : (k : ℕ) (v : View) → get_elem? s.views k ≡ some v → IsPrefix v.seen top.seen
  pub told : (k : ℕ) (v : View) → get_elem? s.views k ≡ some v → IsPrefix v.told top.seen
  pub owned : AreOwned s.views top.seen
  pub apart : AreApart s.views
  pub hired : AreHired s.views top.hired
  pub fresh : AreFresh top.seen top.hired

-- the view has one entry more
abbrev pub Appends : Step Entry → Me Entry View → ℕ → Me Entry View → Type 0
Appends s v found w = (e : Entry) × (s.said ≡ some e) × (w ≡ (view v.0.main (v.0.seen ++ e ∷ []) [] v.0.hired (grown v.0.own e), v.1))

-- the view has the next worker's entries, which are none
abbrev pub Hires : Step Entry → Me Entry View → ℕ → Me Entry View → Type 0
Hires s v found w = (by v.0.hired v.0.seen ≡ []) × (w ≡ (view v.0.main v.0.seen [] (v.0.hired + 1) (Some (v.0.hired, [])), v.1))

-- the list of the joined view is a prefix of the one that was seen, which has the worker's entries and no others of it
abbrev pub Compares : Step Entry → Me Entry View → ℕ → Me Entry View → Type 0
Compares s v found w = IsPrefix v.0.told v.0.seen × ((x : ℕ) (es : List Entry) → v.0.own ≡ Some (x, es) → by x v.0.seen ≡ es) × (w ≡ v)

-- the entry is one of the worker whose view was joined
abbrev pub MayCome : View → Entry → Type 0
MayCome v e = (es : List Entry) × (v.own ≡ Some (writer_of e, es))
