-- Declarations of types are read as they are spelled.
use Rattle.std.proofs.Common.{◌≡◌, ◌+◌, ◌<◌, ◌≤◌, List, [], ◌∷◌, length, false, Option, Some, None, refl, sym, ap, ◌∙◌, subst, arith}
use Rattle.hm_syntax.specs.Names.{Identifier}
use Rattle.hm_syntax.specs.Trees.{TypeTree, no_types, more_types, DataConstructor, data_constructor, DataConstructors, no_constructors, more_constructors, Declaration, data_declaration, newtype_declaration, synonym_declaration}
use Rattle.hm_syntax.specs.Lists.{types, constructors}
use Rattle.hm_parse_grammar.specs.declared.symbol.Symbol.TheVariants.{Data, Newtype, TypeWord, Equals, Bar, Var, Con}
use Rattle.hm_parse_grammar.specs.Symbols.{same}
use Rattle.hm_parse_grammar.specs.Tokens.{Terminal, name_of}
use Rattle.hm_parse_grammar.specs.Grammar.Types.{Type', Atype, Atypes, Constr', constr', Bars, bars_none, bars_more, Tyvars, tyvars_none, tyvars_more, Data', data', Newtype', newtype', Synonym', synonym'}
use Rattle.hm_parse_grammar.specs.Grammar.Headers.{ConName, con_name}
use Rattle.hm_parse_grammar.specs.Reading.Basics.{peek, is_at, tail, loop, behind}
use Rattle.hm_parse_grammar.specs.Reading.Headers.{con_at}
use Rattle.hm_parse_grammar.specs.Reading.Types.{begins_atype, atype_with, atypes_with, type_at}
use Rattle.hm_parse_grammar.specs.Reading.TypeDeclarations.{next_tyvar, constr_at, next_constr, constrs_at, data_in, newtype_in, synonym_in}
use Rattle.hm_parse_grammar.proofs.Holds.{Holds, holds_none, holds_some, holds_if, holds_then, holds_expect, same_true}
use Rattle.hm_parse_grammar.proofs.Rows.{Step, Steps, loop_stops, loop_takes, loop_found}
use Rattle.hm_parse_grammar.proofs.CommaLaws.{Behind}
use Rattle.hm_parse_grammar.proofs.HeaderLaws.{con_found}
use Rattle.hm_parse_grammar.proofs.TypeLaws.{type_short, atype_short, atypes_short, atype_found, type_agree}
use Rattle.hm_parse_grammar.proofs.OnlyTypes.{types_list, atype_steps, only_type, only_atype, only_atypes}

pub tyvars_short : {ns : List Identifier} {ts rest : List Terminal} → Tyvars ns ts rest → length rest ≤ length ts
tyvars_short tyvars_none = omega arith
tyvars_short (tyvars_more q ns) = omega (arith, tyvars_short ns)

pub constr_short : {c : DataConstructor} {ts rest : List Terminal} → Constr' c ts rest → length rest < length ts
constr_short (constr' q as_) = omega (arith, atypes_short as_)

pub bars_short : {cs : DataConstructors} {ts rest : List Terminal} → Bars cs ts rest → length rest ≤ length ts
bars_short bars_none = omega arith
bars_short (bars_more q c cs) = omega (arith, constr_short c, bars_short cs)

pub data_short : {d : Declaration} {ts rest : List Terminal} → Data' d ts rest → length rest < length ts
data_short (data' k n ps q c cs) = omega (arith, tyvars_short ps, constr_short c, bars_short cs)

pub newtype_short : {d : Declaration} {ts rest : List Terminal} → Newtype' d ts rest → length rest < length ts
newtype_short (newtype' k n ps q c t) = omega (arith, tyvars_short ps, atype_short t)

pub synonym_short : {d : Declaration} {ts rest : List Terminal} → Synonym' d ts rest → length rest < length ts
synonym_short (synonym' k n ps q t) = omega (arith, tyvars_short ps, type_short t)

tyvar_step : (ts : List Terminal) → Holds (Step Tyvars ts) (next_tyvar ts)
unfolding next_tyvar
tyvar_step [] = holds_some (None, []) tyvars_none
tyvar_step (k ∷ ts) =
    holds_if _ _ _
    (λ q. holds_some (Some (name_of k), ts) (omega arith, λ ns us ds. tyvars_more (same_true _ _ q) ds))
    (λ _. holds_some (None, k ∷ ts) tyvars_none)

pub tyvar_steps : Steps Tyvars next_tyvar
tyvar_steps = record { step = tyvar_step }

atypes_found : (ts : List Terminal) → Holds (λ (x : List TypeTree × List Terminal). Atypes (types x.0) ts x.1) (atypes_with type_at ts)
unfolding atypes_with
atypes_found ts = loop_found atype_steps ts

constr_found : (ts : List Terminal) → Holds (λ (x : DataConstructor × List Terminal). Constr' x.0 ts x.1) (constr_at ts)
unfolding constr_at
constr_found ts = holds_then _ _ (con_found ts) (λ (n : Identifier × List Terminal) d. holds_then _ _ (atypes_found n.1) (λ (xs : List TypeTree × List Terminal) ds. holds_some _ (spelled xs.0 d ds)))
  where
    spelled : {n : Identifier} {zs us vs : List Terminal} (xs : List TypeTree) → ConName n zs us → Atypes (types xs) us vs → Constr' (data_constructor n (types xs)) zs vs
    spelled xs (con_name q) ds = constr' q ds

abbrev AreBars : List DataConstructor → List Terminal → List Terminal → Type 0
AreBars cs ts rest = Bars (constructors cs) ts rest

constr_step : (ts : List Terminal) → Holds (Step AreBars ts) (next_constr ts)
unfolding next_constr
constr_step [] = holds_some (None, []) bars_none
constr_step (k ∷ ts) =
    holds_if _ _ _
    (λ q. holds_then _ _ (constr_found ts) (λ (c : DataConstructor × List Terminal) d. holds_some (Some c.0, c.1) (omega (arith, constr_short d), λ cs us ds. bars_more (same_true _ _ q) d ds)))
    (λ _. holds_some (None, k ∷ ts) bars_none)

pub constr_steps : Steps AreBars next_constr
constr_steps = record { step = constr_step }

constrs_found : (ts : List Terminal) → Holds (λ (x : List DataConstructor × List Terminal). (c : DataConstructor) × ((us : List Terminal) × (Constr' c ts us × Behind AreBars c us x.0 x.1))) (constrs_at ts)
unfolding constrs_at
constrs_found ts = holds_then _ _ (constr_found ts) (λ (c : DataConstructor × List Terminal) d. through c.0 c.1 d (loop next_constr c.1) (loop_found constr_steps c.1))
  where
    through : (c : DataConstructor) (us : List Terminal) → Constr' c ts us → (r : Option (List DataConstructor × List Terminal)) → Holds (λ (x : List DataConstructor × List Terminal). AreBars x.0 us x.1) r →
        Holds (λ (x : List DataConstructor × List Terminal). (c : DataConstructor) × ((us : List Terminal) × (Constr' c ts us × Behind AreBars c us x.0 x.1))) (behind (c ∷ []) r)
    through c us d None h = holds_none
    through c us d (Some x) h = holds_some (c ∷ x.0, x.1) (c, (us, (d, record { others = x.0; is = refl; row = h.holds x refl })))

pub data_found : (k : Terminal) (ts : List Terminal) → k.symbol ≡ Data → Holds (λ (x : Declaration × List Terminal). Data' x.0 (k ∷ ts) x.1) (data_in ts)
unfolding data_in
data_found k ts q =
    holds_then _ _ (con_found ts) (λ (n : Identifier × List Terminal) dn.
    holds_then _ _ (loop_found tyvar_steps n.1) (λ (ps : List Identifier × List Terminal) dps.
    holds_expect Equals ps.1 _ (λ m us eq e.
    holds_then _ _ (constrs_found us) (λ (cs : List DataConstructor × List Terminal) dcs.
    holds_some _ (spelled ps.0 cs.0 cs.1 dn (subst (λ z. Tyvars ps.0 n.1 z) eq dps) e dcs.1.1.0 dcs.1.1.1)))))
  where
    spelled : {n : Identifier} {zs us vs ws : List Terminal} {m : Terminal} {c : DataConstructor} (ps : List Identifier) (cs : List DataConstructor) (rest : List Terminal) → ConName n zs us → Tyvars ps us (m ∷ vs) → m.symbol ≡ Equals → Constr' c vs ws →
        Behind AreBars c ws cs rest → Data' (data_declaration n ps (constructors cs)) (k ∷ zs) rest
    spelled ps cs rest (con_name {k = j} {rest = zs} v) dps e d b = subst (λ z. Data' (data_declaration (name_of j) ps (constructors z)) (k ∷ j ∷ zs) rest) (sym b.is) (data' q v dps e d b.row)

one_atype : (ts : List Terminal) → Holds (λ (x : TypeTree × List Terminal). Atype x.0 ts x.1) (atype_with type_at ts)
one_atype ts = record { holds = (atype_found (length ts) type_at type_at (type_agree (length ts)) ts (omega arith)).holds }

one_type : (ts : List Terminal) → Holds (λ (x : TypeTree × List Terminal). Type' x.0 ts x.1) (type_at ts)
one_type ts = record { holds = ((type_agree (length ts + 1)).reads ts (omega arith)).holds }

pub newtype_found : (k : Terminal) (ts : List Terminal) → k.symbol ≡ Newtype → Holds (λ (x : Declaration × List Terminal). Newtype' x.0 (k ∷ ts) x.1) (newtype_in ts)
unfolding newtype_in
newtype_found k ts q =
    holds_then _ _ (con_found ts) (λ (n : Identifier × List Terminal) dn.
    holds_then _ _ (loop_found tyvar_steps n.1) (λ (ps : List Identifier × List Terminal) dps.
    holds_expect Equals ps.1 _ (λ m us eq e.
    holds_then _ _ (con_found us) (λ (c : Identifier × List Terminal) dc.
    holds_then _ _ (one_atype c.1) (λ (t : TypeTree × List Terminal) dt.
    holds_some _ (spelled ps.0 t.0 t.1 dn (subst (λ z. Tyvars ps.0 n.1 z) eq dps) e dc dt))))))
  where
    spelled : {n c : Identifier} {zs us vs ws : List Terminal} {m : Terminal} (ps : List Identifier) (t : TypeTree) (rest : List Terminal) → ConName n zs us → Tyvars ps us (m ∷ vs) → m.symbol ≡ Equals → ConName c vs ws → Atype t ws rest →
        Newtype' (newtype_declaration n ps (data_constructor c (more_types t no_types))) (k ∷ zs) rest
    spelled ps t rest (con_name v) dps e (con_name w) dt = newtype' q v dps e w dt

pub synonym_found : (k : Terminal) (ts : List Terminal) → k.symbol ≡ TypeWord → Holds (λ (x : Declaration × List Terminal). Synonym' x.0 (k ∷ ts) x.1) (synonym_in ts)
unfolding synonym_in
synonym_found k ts q =
    holds_then _ _ (con_found ts) (λ (n : Identifier × List Terminal) dn.
    holds_then _ _ (loop_found tyvar_steps n.1) (λ (ps : List Identifier × List Terminal) dps.
    holds_expect Equals ps.1 _ (λ m us eq e.
    holds_then _ _ (one_type us) (λ (t : TypeTree × List Terminal) dt.
    holds_some _ (spelled ps.0 t.0 t.1 dn (subst (λ z. Tyvars ps.0 n.1 z) eq dps) e dt)))))
  where
    spelled : {n : Identifier} {zs us vs : List Terminal} {m : Terminal} (ps : List Identifier) (t : TypeTree) (rest : List Terminal) → ConName n zs us → Tyvars ps us (m ∷ vs) → m.symbol ≡ Equals → Type' t vs rest →
        Synonym' (synonym_declaration n ps t) (k ∷ zs) rest
    spelled ps t rest (con_name v) dps e dt = synonym' q v dps e dt

-- ---- what is spelled is read

abbrev pub constructor_list : DataConstructors → List DataConstructor
constructor_list no_constructors = []
constructor_list (more_constructors c cs) = c ∷ constructor_list cs

pub constructors_list : (cs : DataConstructors) → constructors (constructor_list cs) ≡ cs
constructors_list no_constructors = refl
constructors_list (more_constructors c cs) = ap (more_constructors c) (constructors_list cs)

only_tyvars : {ns : List Identifier} {us rest : List Terminal} → Tyvars ns us rest → is_at Var rest ≡ false → loop next_tyvar us ≡ Some (ns, rest)
unfolding next_tyvar
only_tyvars (tyvars_none {ts = us}) h = loop_stops tyvar_steps us us (rw h refl)
only_tyvars (tyvars_more {ns = ns} {k = k} {us = us} q ds) h = loop_takes tyvar_steps (k ∷ us) us (name_of k) (rw (ap (λ z. same z Var) q) refl) ∙ rw (only_tyvars ds h) refl

con_is : (k : Terminal) (us : List Terminal) → k.symbol ≡ Con → con_at (k ∷ us) ≡ Some (name_of k, us)
unfolding con_at
con_is k us q = rw (ap (λ z. same z Con) q) refl

only_constr : {c : DataConstructor} {ts rest : List Terminal} → Constr' c ts rest → begins_atype (peek rest) ≡ false → constr_at ts ≡ Some (c, rest)
unfolding constr_at atypes_with
only_constr (constr' {ts = xs} {k = k} {us = us} {rest = rest} q ds) h =
    rw (con_is k us q) (rw (only_atypes ds h) (ap (λ z. Some (data_constructor (name_of k) z, rest)) (types_list xs)))

bars_follow : {cs : DataConstructors} {us rest : List Terminal} → Bars cs us rest → begins_atype (peek rest) ≡ false → begins_atype (peek us) ≡ false
bars_follow bars_none h = h
bars_follow (bars_more q c cs) h = ap begins_atype q

bar_is : (k : Terminal) (us : List Terminal) (c : DataConstructor) (vs : List Terminal) → k.symbol ≡ Bar → constr_at us ≡ Some (c, vs) → next_constr (k ∷ us) ≡ Some (Some c, vs)
unfolding next_constr
bar_is k us c vs q e = rw (ap (λ z. same z Bar) q) (rw e refl)

bar_stops : (us : List Terminal) → is_at Bar us ≡ false → next_constr us ≡ Some (None, us)
unfolding next_constr
bar_stops us h = rw h refl

only_bars : {cs : DataConstructors} {us rest : List Terminal} → Bars cs us rest → is_at Bar rest ≡ false → begins_atype (peek rest) ≡ false → loop next_constr us ≡ Some (constructor_list cs, rest)
only_bars (bars_none {ts = us}) b h = loop_stops constr_steps us us (bar_stops us b)
only_bars (bars_more {c = c} {cs = cs} {k = k} {us = us} {vs = vs} {rest = rest} q d ds) b h =
    loop_takes constr_steps (k ∷ us) vs c (bar_is k us c vs q (only_constr d (bars_follow ds h))) ∙ rw (only_bars ds b h) refl

pub only_data : {d : Declaration} {ts rest : List Terminal} → Data' d ts rest → is_at Bar rest ≡ false → begins_atype (peek rest) ≡ false → data_in (tail ts) ≡ Some (d, rest)
unfolding data_in constrs_at
only_data (data' {ps = ps} {c = c} {cs = cs} {k = k} {n = n} {m = m} {us = us} {vs = vs} {ws = ws} {rest = rest} k' q dps e d ds) b h =
    rw (con_is n us q) (rw (only_tyvars dps (ap (λ z. same z Var) e)) (rw (ap (λ z. same z Equals) e) (rw (only_constr d (bars_follow ds h)) (rw (only_bars ds b h)
    (ap (λ z. Some (data_declaration (name_of n) ps (more_constructors c z), rest)) (constructors_list cs))))))

pub data_begins : {d : Declaration} {ts rest : List Terminal} → Data' d ts rest → peek ts ≡ Data
data_begins (data' k n ps q c cs) = k

pub only_newtype : {d : Declaration} {ts rest : List Terminal} → Newtype' d ts rest → newtype_in (tail ts) ≡ Some (d, rest)
unfolding newtype_in
only_newtype (newtype' {n = n} {m = m} {c = c} {us = us} {vs = vs} k q dps e w dt) =
    rw (con_is n us q) (rw (only_tyvars dps (ap (λ z. same z Var) e)) (rw (ap (λ z. same z Equals) e) (rw (con_is c vs w) (rw (only_atype dt) refl))))

pub only_synonym : {d : Declaration} {ts rest : List Terminal} → Synonym' d ts rest → begins_atype (peek rest) ≡ false → synonym_in (tail ts) ≡ Some (d, rest)
unfolding synonym_in
only_synonym (synonym' {n = n} {m = m} {us = us} k q dps e dt) h =
    rw (con_is n us q) (rw (only_tyvars dps (ap (λ z. same z Var) e)) (rw (ap (λ z. same z Equals) e) (rw (only_type dt h) refl)))

pub newtype_begins : {d : Declaration} {ts rest : List Terminal} → Newtype' d ts rest → peek ts ≡ Newtype
newtype_begins (newtype' k n ps q c t) = k

pub synonym_begins : {d : Declaration} {ts rest : List Terminal} → Synonym' d ts rest → peek ts ≡ TypeWord
synonym_begins (synonym' k n ps q t) = k
