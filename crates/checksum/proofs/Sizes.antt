-- An engine takes little memory.
use Rattle.std.proofs.Common.{ℕ, ◌+◌, ◌-◌, ◌*◌, ◌%◌, ◌^◌, ◌<◌, ◌≤◌, max, sym, subst, mod-lt, arith, w8, w16, w32, w64}
use mir.Syntax.{Ty, Width, w128}
use mir.Val.{bytes}
use prog.Memory.{size, align, up}
use prog.Align.{align_w, align-bytes}

bytes_small : (w : Width) → (0 < bytes w) × (bytes w ≤ 16)
bytes_small w8 = (omega arith, omega arith)
bytes_small w16 = (omega arith, omega arith)
bytes_small w32 = (omega arith, omega arith)
bytes_small w64 = (omega arith, omega arith)
bytes_small w128 = (omega arith, omega arith)

align_small : (τ : Ty) → (0 < align τ) × (align τ ≤ 16)
align_small τ = subst (λ (n : ℕ). (0 < n) × (n ≤ 16)) (sym (align-bytes τ)) (bytes_small (align_w τ))

up_small : (k e : ℕ) → 0 < k → k ≤ 16 → up k e ≤ e + 16
up_small k e h l = omega (arith, mod-lt (k - e % k) {m = k} h)

pub engine_fits : (τ : Ty) → size τ ≤ 2 ^ 50 → up (max (align τ) 1) (up (align τ) 0 + 16 * size τ) < 9223372036854775808
engine_fits τ h =
    let a = align_small τ in
    let inner = up_small (align τ) 0 a.0 a.1 in
    let outer = up_small (max (align τ) 1) (up (align τ) 0 + 16 * size τ) (omega arith) (omega arith) in
    omega arith
