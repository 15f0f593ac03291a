-- One call more.
use Rattle.std.proofs.Common.{◌≡◌, ℕ, ◌+◌, ◌≤◌, Bool, true, false, List, [], ◌∷◌, ◌++◌, refl, arith}
use Rattle.std.specs.Prelude.{nat_le, ◌&&◌}
use Rattle.std.proofs.lemmas.Bool.{le-leb}
use Rattle.std.proofs.lemmas.List.Sums.{sum_by-append}
use Rattle.hm_store.specs.Records.{known_after, knows, rises, wrote, wrote_in}
use Rattle.hm_store.specs.declared.object.Entry.{Entry}
use Rattle.hm_store.specs.declared.object.Entry.TheVariants.{Claim, Publish, Fail, Stop}
use Rattle.hm_store.specs.declared.record.Call.{Call}
use Rattle.hm_store_shared.specs.Knowing.{act_by}

pub knows_more : (n : ℕ) (cs : List Call) (c : Call) → knows n (cs ++ c ∷ []) ≡ c.at + wrote c.act
knows_more n [] c = refl
knows_more n (d ∷ cs) c = knows_more (known_after d) cs c

both : (a b : Bool) → a ≡ true → b ≡ true → (a && b) ≡ true
both true b p q = q
both false b p q = absurd (cc)

first : (a b : Bool) → (a && b) ≡ true → a ≡ true
first true b h = refl
first false b h = h

second : (a b : Bool) → (a && b) ≡ true → b ≡ true
second true b h = h
second false b h = absurd (cc)

pub rises_more : (n : ℕ) (cs : List Call) (c : Call) → rises n cs ≡ true → knows n cs ≤ c.at → rises n (cs ++ c ∷ []) ≡ true
rises_more n [] c h le = both (nat_le n c.at) true (le-leb n c.at le) refl
rises_more n (d ∷ cs) c h le = both (nat_le n d.at) (rises (known_after d) (cs ++ c ∷ [])) (first (nat_le n d.at) (rises (known_after d) cs) h) (rises_more (known_after d) cs c (second (nat_le n d.at) (rises (known_after d) cs) h) le)

pub wrote_more : (cs : List Call) (c : Call) → wrote_in (cs ++ c ∷ []) ≡ wrote_in cs + wrote c.act
wrote_more cs c = omega (arith, sum_by-append (λ (d : Call). wrote d.act) cs (c ∷ []))

pub wrote_by : (e : Entry) → wrote (act_by e) ≡ 1
wrote_by (Claim w m) = refl
wrote_by (Publish w m) = refl
wrote_by (Fail w m) = refl
wrote_by (Stop w) = refl
