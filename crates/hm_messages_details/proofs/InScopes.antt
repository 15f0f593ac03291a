-- The scopes around the variable of a fault are those of the local variables there.
use Rattle.std.proofs.Common.{◌≡◌, ◌∙◌, ℕ, ◌+◌, ◌<◌, arith, Bor, IfSome, Option, None, Some, List, [], ◌∷◌, drop, get_or, inr, ⊎_elim, ap, subst, sym, length, map, reverse}
use Rattle.std.proofs.lemmas.List.{reverse-append}
use Rattle.std.proofs.lemmas.List.Elements.{Contains-append_left, Contains-append_right}
use Rattle.std.specs.Prelude.{Contains}
use Rattle.hm_syntax.specs.Lists.{declarations}
use Rattle.hm_syntax.specs.Names.{Identifier}
use Rattle.hm_syntax.specs.declared.ast.Module.{Module}
use Rattle.hm_names.proofs.DeclaredPairs.{map_contains}
use Rattle.hm_names.proofs.Members.{none_in, cases}
use Rattle.hm_names.proofs.Rows.{unrolled}
use Rattle.hm_names.specs.Variables.{texts}
use Rattle.hm_names.specs.Walk.{Node}
use Rattle.hm_names.specs.declared.faults.Fault.{Fault}
use Rattle.hm_messages_details.specs.NearLocals.{HasNearLocal, IsNearLocal, is_near_local}
use Rattle.hm_messages_details.specs.Nearness.{AreNear}
use Rattle.hm_messages_details.specs.Parts.{ModulePart, a_list, IsPart, list_is, head_is, parameters_are, pattern_is, type_is, variable_is, constructor_is, type_variable_is, declarations_parts, module_parts, part_of}
use Rattle.hm_messages_details.specs.Scopes.{IsUseWithin, Occurs, Reaches, Scopes, binders, further, locals_at, locals_of, open_in, start}
use Rattle.hm_messages_details.specs.declared.parts.ModulePart.{ModulePart as LentPart}
use Rattle.hm_messages_details.specs.declared.role.Role.TheVariants.{Variable, Constructor, TypeVariable}
use Rattle.hm_messages_details.proofs.Found.{at_index}
use Rattle.hm_messages_details.proofs.InModules.{in_all}

-- a step of a loop over parts
pub stepped : (row : List LentPart) (i : ℕ) (p : LentPart) (ss ts : Scopes) (ps : List ModulePart) → i < length row → p ≡ get_or row i p → Reaches ss ps ts (map part_of (drop i row)) → Reaches ss ps ts (part_of p ∷ map part_of (drop (i + 1) row))
stepped row i p ss ts ps l is r = subst (Reaches ss ps ts) (ap (map part_of) (unrolled row i p l is)) r

-- what occurs after some parts occurs among all
pub among : (R : Scopes → ModulePart → Type 0) (ss : Scopes) (ps : List ModulePart) (ts : Scopes) (rest : List ModulePart) → Reaches ss ps ts rest → Occurs R ts rest → Occurs R ss ps
among R ss ps ts rest start o = o
among R ss ps ts rest (further r) o = among R ss ps _ _ r (inr o)

turned : {X : Type 0} (xs : List X) (x : X) → Contains xs x → Contains (reverse xs) x
turned [] x c = absurd (none_in x c)
turned (y ∷ ys) x c = subst (λ l. Contains l x) (sym (reverse-append (y ∷ []) ys))
    (⊎_elim (λ e. Contains-append_right (reverse ys) (y ∷ []) x (0, omega arith, sym e)) (λ o. Contains-append_left (reverse ys) (y ∷ []) x (turned ys x o)) (cases y ys x c))

-- a variable of one of the scopes
pub local_in : (ss : Scopes) (p : ModulePart) (x : List ℕ) → Contains ss p → Contains (texts (binders p)) x → Contains (locals_of ss) x
local_in [] p x c b = absurd (none_in p c)
local_in (q ∷ ss) p x c b = ⊎_elim (λ e. Contains-append_left (texts (binders q)) (locals_of ss) x (subst (λ r. Contains (texts (binders r)) x) e b))
    (λ o. Contains-append_right (texts (binders q)) (locals_of ss) x (local_in ss p x o b)) (cases q ss p c)

-- a near name among the variables of a scope
pub near_scope : (f : Fault) (ps : List LentPart) (i : ℕ) (p : LentPart) (names some : List Identifier) (text x : List ℕ) → i < length ps → p ≡ get_or ps i p → names ≡ binders (part_of p) → some ≡ names → text ≡ f.name
    → (n : Identifier) × Contains some n × (n.text ≡ x) × AreNear text x → Contains (locals_of (open_in ps)) x × AreNear f.name x
near_scope f ps i p names some text x l is bound as_slice as_str found =
    let n : Identifier = found.0 in
    let among_names : Contains (binders (part_of p)) n = subst (λ ns. Contains ns n) (as_slice ∙ bound) found.1 in
    let named : Contains (texts (binders (part_of p))) x = subst (Contains (texts (binders (part_of p)))) found.2 (map_contains (λ (k : Identifier). k.text) (binders (part_of p)) n among_names) in
    (local_in (open_in ps) (part_of p) x (turned (map part_of ps) (part_of p) (at_index part_of ps i p l is)) named, subst (λ y. AreNear y x) as_str found.3)

module _ (f : Fault) (x : List ℕ) (around : Scopes) (local : Contains (locals_of around) x) (near : AreNear f.name x) where
  at_node : (ss : Scopes) (k : Node) (p : ModulePart) → IsPart k p → IsUseWithin f around ss p → IsNearLocal f x (locals_at ss p) k
  at_node ss k p list_is u = absurd u.1
  at_node ss k p head_is u = absurd u.1
  at_node ss k p parameters_are u = absurd u.1
  at_node ss k p pattern_is u = absurd u.1
  at_node ss k p type_is u = absurd u.1
  at_node ss k p variable_is u = is_near_local u.1.1.1 u.1.1.0 (subst (λ (s : Scopes). Contains (locals_of s) x) (sym u.0) local) near
  at_node ss k p constructor_is u = absurd (let e : Constructor ≡ Variable = u.1.0 in cc)
  at_node ss k p type_variable_is u = absurd (let e : TypeVariable ≡ Variable = u.1.0 in cc)

  -- the near name is a local variable at the fault's place
  pub near_around : (m : Module) → Occurs (IsUseWithin f around) [] (declarations_parts (declarations m.decls)) → HasNearLocal m f x
  near_around m o = inr (in_all (λ xs k. IsNearLocal f x xs k) (IsUseWithin f around) at_node (λ ss u. u.1) (declarations m.decls) o)

tail_is : (p q : ModulePart) (ps qs : List ModulePart) → p ∷ ps ≡ q ∷ qs → ps ≡ qs
tail_is p q ps qs e = cc

-- the same, as the code finds it
pub near_found : (f : Fault) (row declared scopes : List LentPart) (first : LentPart) → row ≡ first ∷ declared → Occurs (IsUseWithin f (open_in scopes)) [] (map part_of declared)
    → (found : Option (Bor (List ℕ))) → IfSome found (λ x. Contains (locals_of (open_in scopes)) x.now × AreNear f.name x.now) → IfSome found (λ x. (m : Module) → map part_of row ≡ module_parts m.decls → HasNearLocal m f x.now)
near_found f row declared scopes first is o None h = h
near_found f row declared scopes first is o (Some x) h = λ m parts.
    near_around f x.now (open_in scopes) h.0 h.1 m
    (subst (Occurs (IsUseWithin f (open_in scopes)) []) (tail_is (part_of first) (a_list (declarations m.decls)) (map part_of declared) (declarations_parts (declarations m.decls)) (sym (ap (map part_of) is) ∙ parts)) o)
