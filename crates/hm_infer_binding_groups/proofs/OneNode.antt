-- The groups of a list of one node, and what a set without texts tells.
use Rattle.std.proofs.Common.{◌≡◌, ℕ, ◌<◌, List, [], ◌∷◌, length, Some, bytes_eq, ⊎_elim, inl, inr, refl, sym, ap, subst, arith}
use Rattle.std.specs.List.{list_any, slice_get}
use Rattle.std.proofs.lemmas.Option.{slice_get_within, get_or_from_slice_get, slice_get-get_or}
use Rattle.indexmap.specs.IndexSet.{index_set_len}
use Rattle.hm_typing.specs.Names.{Identifier, local}
use Rattle.hm_typing.specs.Units.{Reaches}
use Rattle.hm_typing.specs.Orders.{AreNumberedGroups, NumberedGroup}
use Rattle.hm_syntax.specs.Trees.{Declarations, no_declarations}
use Rattle.hm_names.specs.Syntax.{Known, bindings_of}
use Rattle.hm_infer_dependencies.specs.Nodes.{AreSigned, Texts, list_nodes}
use Rattle.hm_infer_dependencies.specs.Groups.{node_names, node_name}
use Rattle.hm_infer_dependencies.proofs.Named.{names_fit, fit_length, names_unsigned, place_of, at_place}

nothing_of : {A : Type 0} (xs : List A) → length xs ≡ 0 → xs ≡ []
nothing_of [] e = refl
nothing_of (x ∷ xs) e = cc

-- a set without texts is that of a list without signatures
pub none_signed : (texts : Texts) → index_set_len texts ≡ 0 → AreSigned no_declarations texts
none_signed texts e = λ x. ap (λ ks. list_any (λ k. bytes_eq x k.now) ks) (nothing_of texts.keys e)

module _ (k : Known) (all : Declarations) (one : length (list_nodes all all) ≡ 1) where
  abbrev Z : List Identifier
  Z = node_names k all all

  long : length (list_nodes all all) ≡ length Z
  long = fit_length (list_nodes all all) Z (names_fit k all all)

  at_number : (i : ℕ) → i < length (list_nodes all all) → slice_get Z i ≡ Some (node_name k all i)
  at_number i l = slice_get-get_or Z i (local []) (subst (λ m. i < m) long l)

  is_first : (i : ℕ) → i < length (list_nodes all all) → i ≡ 0
  is_first i l = omega (arith, one, l)

  group : NumberedGroup (bindings_of k all all) (node_name k all) (length (list_nodes all all)) [] (0 ∷ [])
  group = record {
    first = 0;
    number = omega (arith, one);
    absent = λ h. h;
    after = λ y l r. inr (subst (λ z. Reaches (bindings_of k all all) (node_name k all z) (node_name k all 0)) (sym (is_first y l)) (subst (λ z. Reaches (bindings_of k all all) (node_name k all 0) (node_name k all z)) (is_first y l) r));
    members = λ y. (
      (λ h. ⊎_elim (λ e. ((let n = one in let z = e in omega arith), inl (sym e))) (λ z. absurd z) h),
      λ h. inl (is_first y h.0),
    );
  }

  pub one_numbered : (groups : List (List ℕ)) → groups ≡ (0 ∷ []) ∷ [] → AreNumberedGroups (bindings_of k all all) (node_name k all) (length (list_nodes all all)) groups
  one_numbered groups e = subst (AreNumberedGroups (bindings_of k all all) (node_name k all) (length (list_nodes all all))) (sym e) record {
    unsigned_names = λ i l. (names_unsigned k all all (node_name k all i)).0 (at_place (node_name k all i) Z i (at_number i l));
    named = λ x u. (let p = place_of x Z ((names_unsigned k all all x).1 u) in (p.0, subst (λ m. p.0 < m) (sym long) (slice_get_within Z p.0 x p.1), sym (get_or_from_slice_get Z p.0 x (local []) p.1)));
    one_number = λ i j l m e. omega (arith, one, l, m);
    all = λ i l. (0 ∷ [], inl refl, inl (is_first i l));
    in_order = (group, tt);
  }
