-- The worked examples of what a worker has seen of the journal.
use Rattle.std.proofs.Common.{◌≡◌, Bool, true, false, List, [], ◌∷◌, refl, arith}
use Rattle.hm_store.specs.declared.object.Entry.{Entry}
use Rattle.hm_store.specs.declared.object.Entry.TheVariants.{Claim, Stop}
use Rattle.hm_store_published.specs.Worked.{plan}
use Rattle.hm_store_shared.specs.Spending.{calls_in}
use Rattle.hm_store_shared.specs.Worked.{BeginsRow, CallsRow, HeldRow}

not_true : ¬ (false ≡ true)
not_true e = absurd (cc e)

longer : ¬ (Claim 1 0 ∷ Stop 1 ∷ [] ≡ Claim 1 0 ∷ [])
longer e = absurd (cc e)

empty : ¬ ([] ≡ Claim 1 0 ∷ [])
empty e = absurd (cc e)

pub held : HeldRow
held = record { claimed = refl; ended = λ e. not_true e; another = λ e. not_true e }

pub begins : BeginsRow
begins = record { others = record { begun = (Claim 2 1 ∷ [], refl); own = refl }; own = λ h. longer h.own; shorter = λ h. empty h.own }

pub calls : CallsRow
calls = record { importing = refl; both = refl; more = λ e. let three : calls_in plan (Claim 1 0 ∷ []) ≡ 3 = refl in absurd (omega (arith, e, three)) }
