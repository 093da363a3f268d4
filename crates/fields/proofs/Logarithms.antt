-- Logarithms to the base t: the program's tables, and how products and inverses go by them.
use Rattle.std.proofs.Common.{◌≡◌, ℕ, zero, suc, ◌+◌, ◌-◌, ◌%◌, ◌<◌, eqb, ltb, List, [], ◌∷◌, get_or, refl, arith, eqb→eq, ltb→lt}
use Rattle.fields.specs.Binary.{binary_product, binary_power}
use Rattle.algebra.proofs.Tests.{every_at, at₂}

-- what the program's tables hold
abbrev pub logs : List ℕ
logs = 0 ∷ 0 ∷ 1 ∷ 14 ∷ 2 ∷ 28 ∷ 15 ∷ 22 ∷ 3 ∷ 5 ∷ 29 ∷ 26 ∷ 16 ∷ 7 ∷ 23 ∷ 11 ∷ 4 ∷ 25 ∷ 6 ∷ 10 ∷ 30 ∷ 13 ∷ 27 ∷ 21 ∷ 17 ∷ 18 ∷ 8 ∷ 19 ∷ 24 ∷ 9 ∷ 12 ∷ 20 ∷ []

abbrev pub powers : List ℕ
powers = 1 ∷ 2 ∷ 4 ∷ 8 ∷ 16 ∷ 9 ∷ 18 ∷ 13 ∷ 26 ∷ 29 ∷ 19 ∷ 15 ∷ 30 ∷ 21 ∷ 3 ∷ 6 ∷ 12 ∷ 24 ∷ 25 ∷ 27 ∷ 31 ∷ 23 ∷ 7 ∷ 14 ∷ 28 ∷ 17 ∷ 11 ∷ 22 ∷ 5 ∷ 10 ∷ 20 ∷ []

pub log_lt : (a : ℕ) → a < 32 → get_or logs a 0 < 31
log_lt a h = ltb→lt _ 31 (every_at 32 (λ x. ltb (get_or logs x 0) 31) tt a h)

pub power_log : (a : ℕ) → a < 32 → ¬ (a ≡ 0) → binary_power 2 (get_or logs a 0) ≡ a
unfolding binary_product
power_log zero h z = absurd (z refl)
power_log (suc a) h z = eqb→eq _ _ (every_at 31 (λ x. eqb (binary_power 2 (get_or logs (suc x) 0)) (suc x)) tt a (omega arith))

pub listed_lt : (n : ℕ) → n < 31 → get_or powers n 0 < 32
listed_lt n h = ltb→lt _ 32 (every_at 31 (λ k. ltb (get_or powers k 0) 32) tt n h)

pub listed_power : (n : ℕ) → n < 31 → get_or powers n 0 ≡ binary_power 2 n
unfolding binary_product
listed_power n h = eqb→eq _ _ (every_at 31 (λ k. eqb (get_or powers k 0) (binary_power 2 k)) tt n h)

pub power_sum : (m n : ℕ) → m < 31 → n < 31 → binary_power 2 ((m + n) % 31) ≡ binary_product (binary_power 2 m) (binary_power 2 n)
unfolding binary_product
power_sum m n hm hn = eqb→eq _ _ (at₂ 31 (λ x y. eqb (binary_power 2 ((x + y) % 31)) (binary_product (binary_power 2 x) (binary_power 2 y))) tt m n hm hn)

pub power_neg : (n : ℕ) → n < 31 → binary_power 2 ((31 - n) % 31) ≡ binary_power (binary_power 2 n) 30
unfolding binary_product
power_neg n h = eqb→eq _ _ (every_at 31 (λ x. eqb (binary_power 2 ((31 - x) % 31)) (binary_power (binary_power 2 x) 30)) tt n h)

pub zero_product : (a b : ℕ) → a ≡ 0 → b < 32 → binary_product a b ≡ 0
unfolding binary_product
zero_product zero b e h = eqb→eq _ _ (every_at 32 (λ x. eqb (binary_product 0 x) 0) tt b h)
zero_product (suc a) b e h = absurd (omega arith)
