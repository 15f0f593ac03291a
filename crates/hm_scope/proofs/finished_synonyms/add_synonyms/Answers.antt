use Rattle.std.proofs.Common.{ℕ, List, sym, subst}
use Rattle.hm_scope.specs.declared.declared_synonyms.OwnSynonym.{OwnSynonym}
use Rattle.hm_scope.specs.Synonyms.{IsExpandable, Finishes}
use Rattle.hm_names.proofs.Existence.{has_resolver}
use Rattle.hm_scope.proofs.SettledSynonyms.{expandable, resolves_needed}
use Rattle.hm_scope.proofs.finished_synonyms.add_synonyms.Goals as goal

pub returns-clause-synonyms : goal.returns-clause-synonyms
returns-clause-synonyms c = λ fs scope tables references w.
    let m = c.args.program.now in
    let r = has_resolver m fs w in
    let own = c.args.synonyms.now.own.now in
    let graph = c.args.synonyms.now.graph.now in
    let exported = c.args.synonyms.now.exported.now in
    let declared = own.declared.items in
    let order = c.in_ok-order.order.items in
    let start = c.args.tables.now in
    let new = c.add_in_order.new.tables in
    let needs = c.in_ok-order.ensures fs scope in
    let expands = expandable m fs c.args.scope.now scope r.0 r.1 w own c.requires.synonyms graph references exported order needs start tables in
    let lent = subst (λ (l : List OwnSynonym). IsExpandable m fs r.0 l c.deref-2.result.now start.synonyms) (sym c.deref.ensures.value) (subst (λ (l : List ℕ). IsExpandable m fs r.0 declared l start.synonyms) (sym c.deref-2.ensures.value) expands) in
    let done = c.in_ok-add_in_order.ensures.finished m fs r.0 scope c.as_str.ensures lent in
    let here = subst (λ (h : List ℕ). Finishes r.0 h c.deref.result.now c.deref-2.result.now start.synonyms new.synonyms) c.as_str.ensures done in
    let back = subst (λ (l : List ℕ). Finishes r.0 m.header.name.text declared l start.synonyms new.synonyms) c.deref-2.ensures.value (subst (λ (l : List OwnSynonym). Finishes r.0 m.header.name.text l c.deref-2.result.now start.synonyms new.synonyms) c.deref.ensures.value here) in
    resolves_needed m fs c.args.scope.now scope r.0 r.1 w own c.requires.synonyms graph references exported order needs start tables new back
