-- Names that mean the same are classes.
use Rattle.std.proofs.Common.{◌∙◌, ℕ, sym, subst}
use Rattle.hm_uses.specs.Uses.{Sense, local_variable, type_variable, an_entity, a_module, a_prefix, unbound, ambiguous}
use Rattle.hm_uses_references.specs.Laws.{SameIsSymmetric, SameIsTransitive}
use Rattle.hm_uses_references.specs.SetNames.{IsShared}

shared_back : (i j : ℕ) (s : Sense) → IsShared i j s → IsShared j i s
shared_back i j (local_variable l c) h = sym h
shared_back i j (type_variable l c) h = sym h
shared_back i j (an_entity e) h = tt
shared_back i j (a_module x) h = tt
shared_back i j (a_prefix x) h = sym h
shared_back i j unbound h = h
shared_back i j ambiguous h = h

shared_on : (i j k : ℕ) (s : Sense) → IsShared i j s → IsShared j k s → IsShared i k s
shared_on i j k (local_variable l c) h g = h ∙ g
shared_on i j k (type_variable l c) h g = h ∙ g
shared_on i j k (an_entity e) h g = tt
shared_on i j k (a_module x) h g = tt
shared_on i j k (a_prefix x) h g = h ∙ g
shared_on i j k unbound h g = h
shared_on i j k ambiguous h g = h

pub symmetric : SameIsSymmetric
symmetric m n h = record { kind = sym h.kind; sense = sym h.sense; shared = shared_back m.number n.number n.used.sense (subst (IsShared m.number n.number) h.sense h.shared) }

pub transitive : SameIsTransitive
transitive m n o h g =
    record { kind = h.kind ∙ g.kind; sense = h.sense ∙ g.sense; shared = shared_on m.number n.number o.number m.used.sense h.shared (subst (IsShared n.number o.number) (sym h.sense) g.shared) }
