-- A lawful set has one text.
use Rattle.std.proofs.Common.{◌≡◌, ℕ, zero, suc, ◌+◌, ◌<◌, Bool, cond, List, [], ◌∷◌, ◌++◌, map, length, Contains, ◌↔◌, refl, sym, ap, ap₂, ◌∙◌, subst, arith, codes}
use Rattle.std.specs.List.{flat_map}
use Rattle.hm_types.specs.Interfaces.{Exports as Interface, AreOrdered}
use Rattle.hm_typing.specs.Names.{IsOneOf}
use Rattle.hm_names.proofs.OrderedLists.{same_ordered}
use Rattle.hm_verdicts.specs.Reports.{name_of_module, AreBlamed, blame_line, IsBlockText, Block, IsBlockOf, is_published, is_failed, is_skipped, tally, count_line, IsReport, IsAllGood, IsReported}
use Rattle.hm_verdicts.specs.Sets.{ModuleSet, imports_of, IsLawfulSet}
use Rattle.hm_verdicts.specs.Verdicts.{Status, Published, Failed, Skipped}
use Rattle.hm_verdicts.proofs.ImportOrder.{import_in}
use Rattle.hm_verdicts.proofs.Lists.{one_of_contained, contained}
use Rattle.hm_verdicts.proofs.OneVerdict.{one_verdict}

same_tally : (test : Status → Bool) (s t : ℕ → Status) (n : ℕ) → ((i : ℕ) → i < n → s i ≡ t i) → tally test s n ≡ tally test t n
same_tally test s t zero e = refl
same_tally test s t (suc n) e = ap₂ (λ x y. cond (test x) 1 0 + y) (e n (omega arith)) (same_tally test s t n (λ i l. e i (omega (arith, l))))

ordered_members : {X : Type 0} (key : X → List ℕ) (P Q : X → Type 0) (xs ys : List X) → AreOrdered (map key xs) → AreOrdered (map key ys) → ((x : X) → Contains xs x ↔ P x) → ((x : X) → Contains ys x ↔ Q x) →
    ((x : X) → P x → Q x) → ((x : X) → Q x → P x) → xs ≡ ys
ordered_members key P Q xs ys a b f g there back = same_ordered key xs ys a b
    (λ x o. one_of_contained ys x ((g x).1 (there x ((f x).0 (contained xs x o)))))
    (λ x o. one_of_contained xs x ((f x).1 (back x ((g x).0 (contained ys x o)))))

map_itself : (xs : List (List ℕ)) → xs ≡ map (λ x. x) xs
map_itself [] = refl
map_itself (x ∷ xs) = ap (λ r. x ∷ r) (map_itself xs)

module _ (p : ModuleSet) (law : IsLawfulSet p) where
  abbrev pub Agree : (ℕ → Status) → (ℕ → Status) → Type 0
  Agree s t = (i : ℕ) → i < length p.modules → s i ≡ t i

  blamed_there : (s t : ℕ → Status) → Agree s t → (i : ℕ) → i < length p.modules → (x : List ℕ) →
      (j : ℕ) × (IsOneOf j (imports_of p i) × (((f : Interface) → ¬ (s j ≡ Published f)) × (x ≡ name_of_module p j))) → (j : ℕ) × (IsOneOf j (imports_of p i) × (((f : Interface) → ¬ (t j ≡ Published f)) × (x ≡ name_of_module p j)))
  blamed_there s t e i l x q = (q.0, (q.1.0, ((λ f k. q.1.1.0 f (e q.0 (import_in p law i q.0 l q.1.0) ∙ k)), q.1.1.1)))

  one_blame : (s t : ℕ → Status) → Agree s t → (i : ℕ) → i < length p.modules → (xs ys : List (List ℕ)) → AreBlamed p s i xs → AreBlamed p t i ys → xs ≡ ys
  one_blame s t e i l xs ys a b = ordered_members (λ x. x) _ _ xs ys (subst AreOrdered (map_itself xs) a.ordered) (subst AreOrdered (map_itself ys) b.ordered) a.members b.members
      (λ x q. blamed_there s t e i l x q) (λ x q. blamed_there t s (λ k m. sym (e k m)) i l x q)

  pub one_block_text : (s t : ℕ → Status) → Agree s t → (i : ℕ) → i < length p.modules → (u v : List ℕ) (a : Status) → IsBlockText p s i u a → IsBlockText p t i v a → u ≡ v
  one_block_text s t e i l u v (Published f) h k = h ∙ sym k
  one_block_text s t e i l u v (Failed found) h k = h ∙ sym k
  one_block_text s t e i l u v Skipped h k = h.1.1 ∙ (ap (λ ns. codes "skipped " ++ name_of_module p i ++ codes "\n" ++ flat_map blame_line ns) (one_blame s t e i l h.0 k.0 h.1.0 k.1.0) ∙ sym k.1.1)

  block_text_there : (s t : ℕ → Status) → Agree s t → (i : ℕ) → i < length p.modules → (u : List ℕ) (a : Status) → IsBlockText p s i u a → IsBlockText p t i u a
  block_text_there s t e i l u (Published f) h = h
  block_text_there s t e i l u (Failed found) h = h
  block_text_there s t e i l u Skipped h = (
    h.0,
    (
      record {
        members = λ x. ((λ c. blamed_there s t e i l x ((h.1.0.members x).0 c)), (λ q. (h.1.0.members x).1 (blamed_there t s (λ k m. sym (e k m)) i l x q)));
        ordered = h.1.0.ordered;
      },
      h.1.1,
    ),
  )

  block_there : (s t : ℕ → Status) → Agree s t → (b : Block) → (i : ℕ) × IsBlockOf p s i b → (i : ℕ) × IsBlockOf p t i b
  block_there s t e b q = (
    q.0,
    record {
      inside = q.1.inside;
      name = q.1.name;
      text = subst (λ z. IsBlockText p t q.0 b.text z) (e q.0 q.1.inside) (block_text_there s t e q.0 q.1.inside b.text (s q.0) q.1.text);
    },
  )

  same_report : (s t : ℕ → Status) (u v : List ℕ) → Agree s t → IsReport p s u → IsReport p t v → u ≡ v
  same_report s t u v e a b =
      let bs : a.blocks ≡ b.blocks = ordered_members (λ x. x.name) _ _ a.blocks b.blocks a.ordered b.ordered a.each b.each (block_there s t e) (block_there t s (λ k m. sym (e k m))) in
      a.whole ∙ (ap₂ (λ x y. flat_map (λ z. z.text) x ++ y) bs (same_line s t e) ∙ sym b.whole)
    where
      same_line : (s t : ℕ → Status) → Agree s t → count_line s (length p.modules) ≡ count_line t (length p.modules)
      same_line s t e =
          ap (λ x. line x (tally is_failed s (length p.modules)) (tally is_skipped s (length p.modules))) (same_tally is_published s t (length p.modules) e) ∙
          (ap (λ x. line (tally is_published t (length p.modules)) x (tally is_skipped s (length p.modules))) (same_tally is_failed s t (length p.modules) e) ∙
          ap (λ x. line (tally is_published t (length p.modules)) (tally is_failed t (length p.modules)) x) (same_tally is_skipped s t (length p.modules) e))
        where
          line : ℕ → ℕ → ℕ → List ℕ
          line x y z = Rattle.std.specs.Fmt.decimal (length p.modules) ++ codes " modules: " ++ Rattle.std.specs.Fmt.decimal x ++ codes " good, " ++ Rattle.std.specs.Fmt.decimal y ++ codes " faulty, " ++ Rattle.std.specs.Fmt.decimal z ++ codes " skipped\n"

  agree : (u v : List ℕ) (a : IsReported p u) (b : IsReported p v) → Agree a.verdicts b.verdicts
  agree u v a b i l = one_verdict p law i (a.verdicts i) (b.verdicts i) (a.are_verdicts i l) (b.are_verdicts i l)

  pub one_text : (u v : List ℕ) → IsReported p u → IsReported p v → u ≡ v
  one_text u v a b = same_report a.verdicts b.verdicts u v (agree u v a b) a.report b.report

  pub one_status : (u v : List ℕ) (a : IsReported p u) (b : IsReported p v) → IsAllGood p a.verdicts ↔ IsAllGood p b.verdicts
  one_status u v a b =
      let e = same_tally is_published a.verdicts b.verdicts (length p.modules) (agree u v a b) in
      ((λ h. sym e ∙ h), (λ h. e ∙ h))
