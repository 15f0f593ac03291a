-- The least number below a bound with a property.
use Rattle.std.proofs.Common.{◌≡◌, ℕ, zero, suc, ◌+◌, ◌<◌, Bool, true, false, Some, None, refl, arith, add-one, zero-add, suc-add, ◌-◌}
use Rattle.hm_store.specs.Objects.{least_below}

pub none_more : (p : ℕ → Bool) (n : ℕ) → least_below p n ≡ None → p n ≡ false → least_below p (n + 1) ≡ None
none_more p n h here = rw (add-one, h, here) refl

some_here : (p : ℕ → Bool) (n : ℕ) → least_below p n ≡ None → p n ≡ true → least_below p (suc n) ≡ Some n
some_here p n h here = rw (h, here) refl

some_later : (p : ℕ → Bool) (m d : ℕ) → least_below p m ≡ None → p m ≡ true → least_below p (d + suc m) ≡ Some m
some_later p m zero h here = rw zero-add (some_here p m h here)
some_later p m (suc d) h here = rw (suc-add, some_later p m d h here) refl

pub least_is : (p : ℕ → Bool) (m n : ℕ) → least_below p m ≡ None → p m ≡ true → m < n → least_below p n ≡ Some m
least_is p m n h here lt = let e : (n - suc m) + suc m ≡ n = omega arith in rw e at (some_later p m (n - suc m) h here)
