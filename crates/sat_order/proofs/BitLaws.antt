-- Sets of numbers as bits of words.
use Rattle.std.proofs.Common.{◌≡◌, ◌≢◌, ◌⊎◌, ℕ, ◌+◌, ◌*◌, ◌/◌, ◌%◌, ◌^◌, ◌≤◌, ◌<◌, Bool, true, false, List, length, get_or, set, replicate, refl, sym, ◌∙◌, ap, subst, arith}
use Rattle.std.specs.Int.{bit_at, bit_not, trailing_zeros, w64}
use Rattle.std.specs.Int.RustNames.{bit_or}
use Rattle.std.specs.Int.Bits.{bit_and, and_zero_l}
use Rattle.std.specs.Prelude.{◌==◌}
use Rattle.std.proofs.Math.Logic.{⊎_elim}
use Rattle.std.proofs.Math.Seq.{ext_get_or}
use Rattle.std.proofs.lemmas.Bool.{both_ways}
use Rattle.std.proofs.lemmas.List.{get_or-replicate, get_or-set_same, get_or-set_other, get_or_past, length-replicate, length-set}
use Rattle.std.proofs.lemmas.Grind.{get_or_default_zero}
use Rattle.std.proofs.lemmas.List.FromFn.{get_or-map-range_with_len, length-map-range_with_len}
use Rattle.std.proofs.lemmas.Nat.Bits.{bit_at-zero, bit_at-trailing_zeros, bit_at_set_same, bit_at_set_other, bit_at_clear_same, bit_at_clear_other}
use Rattle.sat_clause.specs.declared.limits.TheConstants.{VARIABLE_LIMIT}
use Rattle.sat_order.specs.BitSet.{IsBitSet, IsLeast, has, members}
use Rattle.sat_order.proofs.SeatLaws.{which}

pub length-members : (n : ℕ) (ws : List ℕ) → length (members n ws) ≡ n
length-members n ws = length-map-range_with_len (has ws) 0 n

pub member-at : (n : ℕ) (ws : List ℕ) (x : ℕ) → x < n → get_or (members n ws) x false ≡ has ws x
member-at n ws x in_x = get_or-map-range_with_len (has ws) 0 n x x false in_x (omega arith)

-- a number is at most another, or past it
pub at_most : (a b : ℕ) → (a ≤ b) ⊎ (b < a)
at_most a b = grind arith

-- a word is written in which the bit of one number is as told and the others are as they were
module _ (n : ℕ) (ws : List ℕ) (x w : ℕ) (b : Bool) (in_x : x < n) (many : length ws ≡ n / 64 + 1)
    (told : (bit_at w (x % 64) == 1) ≡ b)
    (others : (i : ℕ) → i < 64 → i ≢ x % 64 → bit_at w i ≡ bit_at (get_or ws (x / 64) 0) i) where
  here : get_or (set ws (x / 64) w) (x / 64) 0 ≡ w
  here = get_or-set_same ws (x / 64) w 0 (omega (arith, in_x, many))

  pub has-written : has (set ws (x / 64) w) x ≡ b
  has-written = ap (λ v. bit_at v (x % 64) == 1) here ∙ told

  pub has-other : (y : ℕ) → y ≢ x → has (set ws (x / 64) w) y ≡ has ws y
  has-other y off = ⊎_elim
      (λ same.
      let apart : y % 64 ≢ x % 64 = (λ e. off (let it : y ≡ x = omega (arith, same, e) in it)) in
      ap (λ k. bit_at (get_or (set ws (x / 64) w) k 0) (y % 64) == 1) same
      ∙ ap (λ v. bit_at v (y % 64) == 1) here
      ∙ ap (λ v. v == 1) (others (y % 64) (omega arith) apart)
      ∙ ap (λ k. bit_at (get_or ws k 0) (y % 64) == 1) (sym same))
      (λ other. ap (λ v. bit_at v (y % 64) == 1) (get_or-set_other ws (x / 64) (y / 64) w 0 other))
      (which (y / 64) (x / 64))

  pub members-written : members n (set ws (x / 64) w) ≡ set (members n ws) x b
  members-written =
      let long : length (members n (set ws (x / 64) w)) ≡ n =
      length-members n (set ws (x / 64) w) in
      let short : length (members n ws) ≡ n = length-members n ws in
      ext_get_or false (members n (set ws (x / 64) w)) (set (members n ws) x b)
      (long ∙ sym (length-set (members n ws) x b ∙ short))
      (λ y in_y.
      let in_n : y < n = omega (arith, in_y, long) in
      member-at n (set ws (x / 64) w) y in_n
      ∙ ⊎_elim
      (λ is. ap (has (set ws (x / 64) w)) is ∙ has-written
      ∙ sym (ap (λ k. get_or (set (members n ws) x b) k false) is
      ∙ get_or-set_same (members n ws) x b false (omega (arith, in_x, short))))
      (λ off. has-other y off
      ∙ sym (get_or-set_other (members n ws) x y b false off ∙ member-at n ws y in_n))
      (which y x))

  pub written-within : ((y : ℕ) → has ws y ≡ true → y < n) → (y : ℕ) →
      has (set ws (x / 64) w) y ≡ true → y < n
  written-within within y there = ⊎_elim
      (λ is. subst (λ (k : ℕ). k < n) (sym is) in_x)
      (λ off. within y (sym (has-other y off) ∙ there))
      (which y x)

-- what was read of a list of numbers
pub read-is : (ws : List ℕ) (k read : ℕ) → k < length ws → read ≡ get_or ws k read →
    get_or ws k 0 ≡ read
read-is ws k read in_k is = sym (get_or_default_zero ws k read in_k) ∙ sym is

-- a number within the set is below its size
pub below-size : (n : ℕ) (ws : List ℕ) (s : List Bool) (x : ℕ) → members n ws ≡ s →
    x < length s → x < n
below-size n ws s x is in_s =
    omega (arith, in_s, ap (λ (l : List Bool). length l) is, length-members n ws)

-- a number comes in
pub inserted : (n : ℕ) (ws : List ℕ) (low x read : ℕ) → IsBitSet n ws low → x < n →
    read ≡ get_or ws (x / 64) read → let w : ℕ = bit_or read (1 * 2 ^ (x % 64) % 2 ^ 64) in
    (members n (set ws (x / 64) w) ≡ set (members n ws) x true)
    × ((m : ℕ) → m ≤ low → m ≤ x / 64 → IsBitSet n (set ws (x / 64) w) m)
inserted n ws low x read h in_x at =
    let w : ℕ = bit_or read (1 * 2 ^ (x % 64) % 2 ^ 64) in
    let is : w ≡ bit_or (get_or ws (x / 64) 0) (1 * 2 ^ (x % 64) % 2 ^ 64) =
    ap (λ v. bit_or v (1 * 2 ^ (x % 64) % 2 ^ 64))
    (sym (read-is ws (x / 64) read (omega (arith, in_x, h.many)) at)) in
    let told : (bit_at w (x % 64) == 1) ≡ true =
    ap (λ v. bit_at v (x % 64) == 1) is
    ∙ ap (λ v. v == 1) (bit_at_set_same w64 (get_or ws (x / 64) 0) (x % 64) (omega arith)) in
    let others : (i : ℕ) → i < 64 → i ≢ x % 64 → bit_at w i ≡ bit_at (get_or ws (x / 64) 0) i =
    (λ i in_i off. ap (λ v. bit_at v i) is
    ∙ bit_at_set_other w64 (get_or ws (x / 64) 0) (x % 64) (omega arith) i off) in (
      members-written n ws x w true in_x h.many told others,
      λ m at_low at_word. record {
        few = h.few;
        many = length-set ws (x / 64) w ∙ h.many;
        none = λ k before.
            get_or-set_other ws (x / 64) k w 0 (omega (arith, before, at_word))
            ∙ h.none k (omega (arith, before, at_low));
        within = written-within n ws x w true in_x h.many told others h.within;
      },
    )

-- a number goes out
pub removed : (n : ℕ) (ws : List ℕ) (low x read : ℕ) → IsBitSet n ws low → x < n →
    read ≡ get_or ws (x / 64) read →
    let w : ℕ = bit_and read (bit_not w64 (1 * 2 ^ (x % 64) % 2 ^ 64)) in
    (members n (set ws (x / 64) w) ≡ set (members n ws) x false)
    × IsBitSet n (set ws (x / 64) w) low
removed n ws low x read h in_x at =
    let w : ℕ = bit_and read (bit_not w64 (1 * 2 ^ (x % 64) % 2 ^ 64)) in
    let is : w ≡ bit_and (get_or ws (x / 64) 0) (bit_not w64 (1 * 2 ^ (x % 64) % 2 ^ 64)) =
    ap (λ v. bit_and v (bit_not w64 (1 * 2 ^ (x % 64) % 2 ^ 64)))
    (sym (read-is ws (x / 64) read (omega (arith, in_x, h.many)) at)) in
    let told : (bit_at w (x % 64) == 1) ≡ false =
    ap (λ v. bit_at v (x % 64) == 1) is
    ∙ ap (λ v. v == 1) (bit_at_clear_same w64 (get_or ws (x / 64) 0) (x % 64) (omega arith)) in
    let others : (i : ℕ) → i < 64 → i ≢ x % 64 → bit_at w i ≡ bit_at (get_or ws (x / 64) 0) i =
    (λ i in_i off. ap (λ v. bit_at v i) is
    ∙ bit_at_clear_other w64 (get_or ws (x / 64) 0) (x % 64) (omega arith) i in_i off) in (
      members-written n ws x w false in_x h.many told others,
      record {
        few = h.few;
        many = length-set ws (x / 64) w ∙ h.many;
        none = λ k before. ⊎_elim
            (λ same. ap (λ j. get_or (set ws (x / 64) w) j 0) same
            ∙ get_or-set_same ws (x / 64) w 0 (omega (arith, in_x, h.many))
            ∙ is
            ∙ ap (λ v. bit_and v (bit_not w64 (1 * 2 ^ (x % 64) % 2 ^ 64)))
            (ap (λ j. get_or ws j 0) (sym same) ∙ h.none k before)
            ∙ and_zero_l (bit_not w64 (1 * 2 ^ (x % 64) % 2 ^ 64)))
            (λ off. get_or-set_other ws (x / 64) k w 0 off ∙ h.none k before)
            (which k (x / 64));
        within = written-within n ws x w false in_x h.many told others h.within;
      },
    )

-- what is in a set is below its size
pub in_size : (n : ℕ) (ws : List ℕ) (x : ℕ) → get_or (members n ws) x false ≡ true →
    (x < n) × (has ws x ≡ true)
in_size n ws x there = ⊎_elim
    (λ past. absurd (both_ways true
    (sym there
    ∙ get_or_past (members n ws) x false (omega (arith, past, length-members n ws))) refl))
    (λ in_x. (in_x, sym (member-at n ws x in_x) ∙ there))
    (at_most n x)

-- no bit of a word that is 0 is set
pub has-none : (ws : List ℕ) (x k : ℕ) → x / 64 ≡ k → get_or ws k 0 ≡ 0 → has ws x ≡ false
has-none ws x k is zero =
    ap (λ j. bit_at (get_or ws j 0) (x % 64) == 1) is ∙ ap (λ v. bit_at v (x % 64) == 1) zero
    ∙ ap (λ v. v == 1) (bit_at-zero (x % 64))

module _ (n : ℕ) (ws : List ℕ) (from low : ℕ) (h : IsBitSet n ws from)
    (empty : (k : ℕ) → from ≤ k → k < low → get_or ws k 0 ≡ 0) where
  pub below : (k : ℕ) → k < low → get_or ws k 0 ≡ 0
  below k before = ⊎_elim (λ later. empty k later before) (λ early. h.none k early) (at_most from k)

  pub least-is : 1 ≤ get_or ws low 0 → get_or ws low 0 < 2 ^ 64 → (x : ℕ) →
      x ≡ low * 64 + trailing_zeros w64 (get_or ws low 0) → IsLeast (members n ws) x
  least-is some fits x is =
      let w : ℕ = get_or ws low 0 in
      let lowest = bit_at-trailing_zeros w64 w (omega (arith, some)) fits in
      let short : trailing_zeros w64 w < 64 = lowest.0 in
      let word : x / 64 ≡ low = omega (arith, is, short) in
      let bit : x % 64 ≡ trailing_zeros w64 w = omega (arith, is, short) in
      let there : has ws x ≡ true =
      ap (λ k. bit_at (get_or ws k 0) (x % 64) == 1) word ∙ ap (λ i. bit_at w i == 1) bit
      ∙ ap (λ v. v == 1) lowest.1 in
      let in_x : x < n = h.within x there in
      record {
        within = omega (arith, in_x, length-members n ws);
        there = member-at n ws x in_x ∙ there;
        least = λ y in_y. ⊎_elim (λ le. le)
            (λ before. absurd (both_ways (has ws y) (before_least y before word bit lowest.2)
            (in_size n ws y in_y).1))
            (at_most x y);
      }
    where
      before_least : (y : ℕ) → y < x → x / 64 ≡ low →
          x % 64 ≡ trailing_zeros w64 (get_or ws low 0) →
          ((i : ℕ) → i < trailing_zeros w64 (get_or ws low 0) → bit_at (get_or ws low 0) i ≡ 0) →
          has ws y ≡ false
      before_least y before word bit zeros = ⊎_elim
          (λ same. ap (λ k. bit_at (get_or ws k 0) (y % 64) == 1) same
          ∙ ap (λ v. v == 1) (zeros (y % 64) (omega (arith, before, word, bit, same))))
          (λ other. has-none ws y (y / 64) refl
          (below (y / 64) (omega (arith, before, word, other))))
          (which (y / 64) low)

  pub none-is : length ws ≤ low → (x : ℕ) → get_or (members n ws) x false ≡ false
  none-is all x = ⊎_elim
      (λ past. get_or_past (members n ws) x false (omega (arith, past, length-members n ws)))
      (λ in_x. member-at n ws x in_x
      ∙ has-none ws x (x / 64) refl (below (x / 64) (omega (arith, in_x, all, h.many))))
      (at_most n x)

-- the words of the set of no number
pub empty-words : (n : ℕ) (ws : List ℕ) → n ≤ VARIABLE_LIMIT →
    ws ≡ replicate {A = ℕ} (n / 64 + 1) 0 →
    (members n ws ≡ replicate n false) × IsBitSet n ws 0
empty-words n ws few is =
    let many : length ws ≡ n / 64 + 1 =
    ap (λ (l : List ℕ). length l) is ∙ length-replicate {A = ℕ} (n / 64 + 1) 0 in
    let zero_at : (k : ℕ) → get_or ws k 0 ≡ 0 = (λ k. ap (λ (l : List ℕ). get_or l k 0) is
    ∙ zeros (n / 64 + 1) k) in
    let long : length (members n ws) ≡ n = length-members n ws in (
      ext_get_or false (members n ws) (replicate n false) (long ∙ sym (length-replicate n false))
          (λ x in_x.
          let in_n : x < n = omega (arith, in_x, long) in
          member-at n ws x in_n ∙ has-none ws x (x / 64) refl (zero_at (x / 64))
          ∙ sym (get_or-replicate n x false false in_n)),
      record {
        few = few;
        many = many;
        none = λ k before. zero_at k;
        within = λ x there.
            absurd (both_ways (has ws x) (has-none ws x (x / 64) refl (zero_at (x / 64))) there);
      },
    )
  where
    zeros : (m k : ℕ) → get_or (replicate {A = ℕ} m 0) k 0 ≡ 0
    zeros m k = ⊎_elim
        (λ past. get_or_past (replicate {A = ℕ} m 0) k 0
        (omega (arith, past, length-replicate {A = ℕ} m 0)))
        (λ in_k. get_or-replicate {A = ℕ} m k 0 0 in_k)
        (at_most m k)

-- a list of truths that are all true
pub all-true : (n : ℕ) (s : List Bool) → length s ≡ n →
    ((x : ℕ) → x < n → get_or s x false ≡ true) → s ≡ replicate n true
all-true n s long each =
    ext_get_or false s (replicate n true) (long ∙ sym (length-replicate n true))
    (λ x in_x. let in_n : x < n = omega (arith, in_x, long) in
    each x in_n ∙ sym (get_or-replicate n x true false in_n))
