-- p = 2^64 - 2^32 + 1 has no proper divisor (`prime`). The proof is Proth's: b = 7^(2^32 - 1) has b^(2^31) = -1 modulo p, so
-- modulo every divisor d > 2 of p the 2^32 powers of b are distinct, and by the pigeonhole principle d is at least 2^32; two such
-- divisors have a product above p.
use mathlib.Core.Path.{◌≡◌, refl, sym, ap, ◌∙◌, subst}
use Prim.Native.Nat.{ℕ, zero, suc, ◌+◌, ◌*◌, ◌/◌, ◌%◌, ◌^◌, ◌≤◌, ◌<◌}
use native.Mathlib.Nat.{mul_assoc, mul_comm, mul_left_comm, mul-mul-mul_comm, mul-one, one-mul, mod-lt, mod-mod, mod-eq_of_lt, zero-mod, pow-zero, pow-succ', mul-le-mul, not-suc-le-zero, mul-mod_right, mod-mod_of_dvd, dvd_of_mod-eq-zero}
use native.Mathlib.Decide.{ℕ_discrete}
use native.Mathlib.Omega.{arith}
use Rattle.field.specs.Modulus.{P}
use Rattle.field.proofs.Remainders.{mul-cong, add_cong}

-- repeated squaring, h times

tower : ℕ → ℕ → ℕ
tower zero b = b
tower (suc h) b = tower h (b * b)

tower-cong : (d h a b : ℕ) → a % d ≡ b % d → tower h a % d ≡ tower h b % d
unfolding tower
tower-cong d zero a b e = e
tower-cong d (suc h) a b e = tower-cong d h (a * a) (b * b) (mul-cong a b a b d e e)

mul-pow : (a b e : ℕ) → (a * b) ^ e ≡ a ^ e * b ^ e
mul-pow a b zero = pow-zero (a * b) ∙ (λ i. sym (pow-zero a) i * sym (pow-zero b) i)
mul-pow a b (suc e) =
    pow-succ' (a * b) e ∙ ap (λ (n : ℕ). a * b * n) (mul-pow a b e) ∙ mul-mul-mul_comm a b (a ^ e) (b ^ e)
    ∙ (λ i. sym (pow-succ' a e) i * sym (pow-succ' b e) i)

tower-pow : (h b e : ℕ) → tower h (b ^ e) ≡ tower h b ^ e
unfolding tower
tower-pow zero b e = refl
tower-pow (suc h) b e = ap (λ (n : ℕ). tower h n) (sym (mul-pow b b e)) ∙ tower-pow h (b * b) e

tower-one : (h : ℕ) → tower h 1 ≡ 1
unfolding tower
tower-one zero = refl
tower-one (suc h) = tower-one h

-- the base divides its tower
tower-dvd : (h b : ℕ) → (c : ℕ) × (tower h b ≡ b * c)
unfolding tower
tower-dvd zero b = (1, sym (mul-one b))
tower-dvd (suc h) b = let r = tower-dvd h (b * b) in (b * r.0, r.1 ∙ mul_assoc b b r.0)

-- t is -1 modulo d: its square is 1, and so are its odd powers t

neg-square : (d t : ℕ) → (t + 1) % d ≡ 0 → (t * t) % d ≡ 1 % d
neg-square d t h =
    let z : (t + 1) % d ≡ 0 % d = h ∙ sym (zero-mod d) in
    let l : (t * t + (t + 1)) % d ≡ (t * t + 0) % d = add_cong (t * t) (t * t) (t + 1) 0 d refl z in
    let m : (t * (t + 1) + 1) % d ≡ (t * 0 + 1) % d = add_cong (t * (t + 1)) (t * 0) 1 1 d (mul-cong t t (t + 1) 0 d refl z) refl in
    let e : t * (t + 1) + 1 ≡ t * t + (t + 1) = omega arith in
    let e1 : t * t + 0 ≡ t * t = omega arith in
    let e2 : t * 0 + 1 ≡ 1 = omega arith in
    sym (ap (λ (n : ℕ). n % d) e1) ∙ sym l ∙ ap (λ (n : ℕ). n % d) (sym e) ∙ m ∙ ap (λ (n : ℕ). n % d) e2

neg-odd : (d t k : ℕ) → (t + 1) % d ≡ 0 → (t * (t * t) ^ k) % d ≡ t % d
neg-odd d t zero h = ap (λ (n : ℕ). n % d) (ap (λ (n : ℕ). t * n) (pow-zero (t * t)) ∙ mul-one t)
neg-odd d t (suc k) h =
    ap (λ (n : ℕ). n % d) (ap (λ (n : ℕ). t * n) (pow-succ' (t * t) k) ∙ mul_left_comm t (t * t) ((t * t) ^ k))
    ∙ mul-cong (t * t) 1 (t * (t * t) ^ k) t d (neg-square d t h) (neg-odd d t k h)
    ∙ ap (λ (n : ℕ). n % d) (one-mul t)

pub pow-double : (b k : ℕ) → b ^ (2 * k) ≡ (b * b) ^ k
pow-double b zero = pow-zero b ∙ sym (pow-zero (b * b))
pow-double b (suc k) =
    let e : 2 * suc k ≡ suc (suc (2 * k)) = omega arith in
    ap (λ (n : ℕ). b ^ n) e ∙ pow-succ' b (suc (2 * k)) ∙ ap (λ (n : ℕ). b * n) (pow-succ' b (2 * k) ∙ ap (λ (n : ℕ). b * n) (pow-double b k))
    ∙ sym (mul_assoc b b ((b * b) ^ k)) ∙ sym (pow-succ' (b * b) k)

not-both : (d t : ℕ) → 2 < d → (t + 1) % d ≡ 0 → t % d ≡ 1 % d → ⊥
not-both d t g h e =
    let z : (t + 1) % d ≡ (1 + 1) % d = add_cong t 1 1 1 d e refl in
    let w : 2 % d ≡ 2 = mod-eq_of_lt g in
    let y : ◌≡◌ {A = ℕ} 2 0 = sym w ∙ sym z ∙ h in
    omega arith

odd-case : (d : ℕ) → 2 < d → (h b k : ℕ) → (tower h b + 1) % d ≡ 0 → (b ^ suc (2 * k)) % d ≡ 1 % d → ⊥
odd-case d g h b k n r =
    let t : ℕ = tower h b in
    let a : (t ^ suc (2 * k)) % d ≡ 1 % d = ap (λ (m : ℕ). m % d) (sym (tower-pow h b (suc (2 * k)))) ∙ tower-cong d h (b ^ suc (2 * k)) 1 r ∙ ap (λ (m : ℕ). m % d) (tower-one h) in
    not-both d t g n (sym (neg-odd d t k n) ∙ ap (λ (m : ℕ). m % d) (sym (pow-succ' t (2 * k) ∙ ap (λ (m : ℕ). t * m) (pow-double t k))) ∙ a)

data Parity : ℕ → Type 0 where
  even : (k : ℕ) → Parity (2 * k)
  odd : (k : ℕ) → Parity (suc (2 * k))

parity : (n : ℕ) → Parity n
parity n = go (n % 2) refl
  where
    go : (r : ℕ) → n % 2 ≡ r → Parity n
    go zero e = let q : 2 * (n / 2) ≡ n = omega arith in subst (λ (m : ℕ). Parity m) q (even (n / 2))
    go (suc r) e = let q : suc (2 * (n / 2)) ≡ n = omega arith in subst (λ (m : ℕ). Parity m) q (odd (n / 2))

no-root : (d : ℕ) → 2 < d → (h b e : ℕ) → 0 < e → e < 2 ^ suc h → (tower h b + 1) % d ≡ 0 → (b ^ e) % d ≡ 1 % d → ⊥
unfolding tower
no-root d g zero b e l u n r = go e (parity e) l u r
  where
    go : (e : ℕ) → Parity e → 0 < e → e < 2 → (b ^ e) % d ≡ 1 % d → ⊥
    go _ (even k) l u r = omega arith
    go _ (odd k) l u r = odd-case d g zero b k n r
no-root d g (suc h) b e l u n r = go (no-root d g h (b * b)) e (parity e) l u r
  where
    go : ((e : ℕ) → 0 < e → e < 2 ^ suc h → (tower h (b * b) + 1) % d ≡ 0 → ((b * b) ^ e) % d ≡ 1 % d → ⊥) → (e : ℕ) → Parity e → 0 < e → e < 2 ^ suc (suc h) → (b ^ e) % d ≡ 1 % d → ⊥
    go ih _ (even k) l u r = ih k (omega arith) (omega arith) n (ap (λ (m : ℕ). m % d) (sym (pow-double b k)) ∙ r)
    go ih _ (odd k) l u r = odd-case d g (suc h) b k n r

-- b has an inverse modulo d, so that it cancels
cancel : (d h b x y : ℕ) → (tower h b + 1) % d ≡ 0 → (b * x) % d ≡ (b * y) % d → x % d ≡ y % d
cancel d h b x y n e =
    let t : ℕ = tower h b in
    let r = tower-dvd h b in
    let c : ℕ = r.0 * t in
    let one : (c * b) % d ≡ 1 % d = ap (λ (m : ℕ). m % d) (mul_comm c b ∙ sym (mul_assoc b r.0 t) ∙ ap (λ (m : ℕ). m * t) (sym r.1)) ∙ neg-square d t n in
    sym (back c x one) ∙ mul-cong c c (b * x) (b * y) d refl e ∙ back c y one
  where
    back : (c z : ℕ) → (c * b) % d ≡ 1 % d → (c * (b * z)) % d ≡ z % d
    back c z one = ap (λ (m : ℕ). m % d) (sym (mul_assoc c b z)) ∙ mul-cong (c * b) 1 z z d one refl ∙ ap (λ (m : ℕ). m % d) (one-mul z)

distinct : (d h b : ℕ) → 2 < d → (tower h b + 1) % d ≡ 0 → (i j : ℕ) → i < j → j < 2 ^ suc h → (b ^ i) % d ≡ (b ^ j) % d → ⊥
distinct d h b g n zero j l u e = no-root d g h b j l u n (sym e ∙ ap (λ (m : ℕ). m % d) (pow-zero b))
distinct d h b g n (suc i) zero l u e = not-suc-le-zero l
distinct d h b g n (suc i) (suc j) l u e =
    distinct d h b g n i j (omega arith) (omega arith)
    (cancel d h b (b ^ i) (b ^ j) n (ap (λ (m : ℕ). m % d) (sym (pow-succ' b i)) ∙ e ∙ ap (λ (m : ℕ). m % d) (pow-succ' b j)))

-- pigeonhole: n distinct numbers below d are at most d

swap : (v d : ℕ) (x : ℕ) → Dec (x ≡ d) → ℕ
swap v d x (yes _) = v
swap v d x (no _) = x

swap-lt : (v d x : ℕ) (c : Dec (x ≡ d)) → v < suc d → x < suc d → (x ≡ v → ⊥) → swap v d x c < d
unfolding swap
swap-lt v d x (yes e) hv hx ne = let k : ¬ (v ≡ d) = λ q. ne (e ∙ sym q) in omega arith
swap-lt v d x (no q) hv hx ne = omega arith

swap_inj : (v d x y : ℕ) (c : Dec (x ≡ d)) (c' : Dec (y ≡ d)) → (x ≡ v → ⊥) → (y ≡ v → ⊥) → swap v d x c ≡ swap v d y c' → x ≡ y
unfolding swap
swap_inj v d x y (yes e) (yes e') nx ny q = e ∙ sym e'
swap_inj v d x y (yes e) (no e') nx ny q = absurd (ny (sym q))
swap_inj v d x y (no e) (yes e') nx ny q = absurd (nx q)
swap_inj v d x y (no e) (no e') nx ny q = q

pub pigeonhole : (d n : ℕ) (f : ℕ → ℕ) → ((i : ℕ) → i < n → f i < d) → ((i j : ℕ) → i < j → j < n → f i ≡ f j → ⊥) → n ≤ d
pigeonhole zero zero f b inj = omega arith
pigeonhole zero (suc n) f b inj = absurd (not-suc-le-zero (b 0 (omega arith)))
pigeonhole (suc d) zero f b inj = omega arith
pigeonhole (suc d) (suc n) f b inj =
    let v : ℕ = f n in
    let m : n ≤ d =
    pigeonhole d n (λ (i : ℕ). swap v d (f i) (ℕ_discrete (f i) d))
    (λ i l. swap-lt v d (f i) (ℕ_discrete (f i) d) (b n (omega arith)) (b i (omega arith)) (λ q. inj i n l (omega arith) q))
    (λ i j l u q. inj i j l (omega arith) (swap_inj v d (f i) (f j) (ℕ_discrete (f i) d) (ℕ_discrete (f j) d) (λ w. inj i n (omega arith) (omega arith) w) (λ w. inj j n u (omega arith) w) q)) in
    omega arith

-- a divisor above 2 is at least 2 ^ 32
large : (d h b : ℕ) → 2 < d → (tower h b + 1) % d ≡ 0 → 2 ^ suc h ≤ d
large d h b g n = pigeonhole d (2 ^ suc h) (λ i. (b ^ i) % d) (λ i l. mod-lt (b ^ i) (omega arith)) (λ i j l u e. distinct d h b g n i j l u e)

-- the tower, computed modulo m
chain : ℕ → ℕ → ℕ → ℕ
chain m zero b = b
chain m (suc h) b = chain m h (b * b % m)

chain-tower : (m h b : ℕ) → tower h b % m ≡ chain m h b % m
unfolding tower chain
chain-tower m zero b = refl
chain-tower m (suc h) b = tower-cong m h (b * b) (b * b % m) (sym (mod-mod (b * b) m)) ∙ chain-tower m h (b * b % m)

-- 7 ^ (2 ^ 32 - 1) modulo p
B : ℕ
B = 1753635133440165772

chained : chain P 31 B % P ≡ 18446744069414584320
unfolding chain B
chained = refl

root : (tower 31 B + 1) % P ≡ 0
root = add_cong (tower 31 B) 18446744069414584320 1 1 P (chain-tower P 31 B ∙ chained) refl

above : (d e : ℕ) → d * e ≡ P → 1 < d → 2 ^ 32 ≤ d
above d e q l = large d 31 B three (sym (mod-mod_of_dvd d (tower 31 B + 1) (dvd_of_mod-eq-zero d (ap (λ (m : ℕ). m % d) (sym q) ∙ mul-mod_right d e))) ∙ ap (λ (m : ℕ). m % d) root ∙ zero-mod d)
  where
    not-two : (x : ℕ) → x ≡ 2 → x * e ≡ P → ⊥
    not-two x w z = let y : 2 * e ≡ P = ap (λ (m : ℕ). m * e) (sym w) ∙ z in omega arith

    three : 2 < d
    three = let k : ¬ (d ≡ 2) = λ w. not-two d w q in omega arith

pub prime : (d e : ℕ) → d * e ≡ P → 1 < d → 1 < e → ⊥
prime d e q l m =
    let a : 2 ^ 32 ≤ d = above d e q l in
    let b : 2 ^ 32 ≤ e = above e d (mul_comm e d ∙ q) m in
    let c : 2 ^ 32 * 2 ^ 32 ≤ d * e = mul-le-mul a b in
    omega arith
