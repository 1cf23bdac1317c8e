-- Values that stand in bytes, and come back from them.
use Rattle.std.proofs.Common.{◌≡◌, ◌≤◌, ◌<◌, ◌+◌, ◌-◌, ◌*◌, ◌/◌, ◌^◌, ℕ, suc, List, [], ◌∷◌, ◌++◌, length, take, drop, get_or, map, refl, ap, sym, subst, ◌∙◌, arith, add-one, length-append, Some, ℤ, pos, All}
use Rattle.std.proofs.Math.Nat.{div-eq-sub-div, div-eq_of_lt, mod-eq_of_lt, mul-le-mul_right}
use Rattle.std.proofs.Math.Facts.{Fits-of_z}
use Rattle.std.proofs.lemmas.Int.{to_z-of_z}
use Rattle.std.proofs.lemmas.Nat.{from_le_bytes-to_le_bytes_2, from_le_bytes-to_le_bytes_4, from_le_bytes-to_le_bytes_8, le_or_l, le_or_r, or_lt}
use Rattle.std.proofs.lemmas.List.{take_at, drop_at, take_all, take_more, flat_map_more}
use Rattle.std.proofs.lemmas.List.Elements.{All-head, All-tail, All-push, All-pop, All-weaker}
use Rattle.std.proofs.lemmas.Slice.{take-put_mid}
use borrow.Rule.Slice.PartMut.{put_mid}
use mir.Val.{hbits}
use Rattle.std.specs.Prelude.{bit_or}
use Rattle.std.specs.Int.{w8, w16, w32, w64, cast_signed}
use Rattle.std.specs.Int.Signed.{mag}
use Rattle.std.specs.List.{flat_map}
use Rattle.std.specs.Simd.{first_chunks}
use Rattle.acc_batch.specs.declared.values.Width.{Width}
use Rattle.acc_batch.specs.declared.values.Width.TheVariants.{One, Two, Four, Eight}
use Rattle.acc_batch.specs.Values.{integer, byte_count, FitsIn, bytes_of, value_in_bytes, values_in, IsLeastFor, IsPacked}

-- a value has some bytes
some_bytes : (width : Width) → 0 < byte_count width
some_bytes One = omega arith
some_bytes Two = omega arith
some_bytes Four = omega arith
some_bytes Eight = omega arith

length-bytes_of : (width : Width) (value : ℤ) → length (bytes_of width value) ≡ byte_count width
length-bytes_of One value = refl
length-bytes_of Two value = refl
length-bytes_of Four value = refl
length-bytes_of Eight value = refl

-- a value that fits comes back from its bytes
value_back : (width : Width) (value : ℤ) → FitsIn width value → value_in_bytes width (bytes_of width value) ≡ value
value_back One value fits = ap (cast_signed w8) (mod-eq_of_lt (Fits-of_z fits).fits) ∙ to_z-of_z w8 value fits
value_back Two value fits = ap (cast_signed w16) (from_le_bytes-to_le_bytes_2 _ (Fits-of_z fits).fits) ∙ to_z-of_z w16 value fits
value_back Four value fits = ap (cast_signed w32) (from_le_bytes-to_le_bytes_4 _ (Fits-of_z fits).fits) ∙ to_z-of_z w32 value fits
value_back Eight value fits = ap (cast_signed w64) (from_le_bytes-to_le_bytes_8 _ (Fits-of_z fits).fits) ∙ to_z-of_z w64 value fits

-- the value of the first bytes is the first
values_in-append : (width : Width) (front rest : List ℕ) → length front ≡ byte_count width
    → values_in width (front ++ rest) ≡ value_in_bytes width front ∷ values_in width rest
values_in-append width front rest long =
    let size = byte_count width in let behind = length rest / size in let both = front ++ rest in
    let some = some_bytes width in let sum = length-append front rest in
    let enough : size ≤ length both = omega arith in
    let left : length both - size ≡ length rest = omega arith in
    let more : length both / size ≡ suc behind = div-eq-sub-div some enough ∙ add-one _ ∙ ap (λ n. suc (n / size)) left in
    ap (λ n. map (value_in_bytes width) (first_chunks size n both)) more
    ∙ ap (λ bytes. value_in_bytes width bytes ∷ map (value_in_bytes width) (first_chunks size behind (drop size both))) (take_at front rest size long)
    ∙ ap (λ bytes. value_in_bytes width front ∷ map (value_in_bytes width) (first_chunks size behind bytes)) (drop_at front rest size long)

-- values that fit come back from their bytes
pub values_back : (width : Width) (values : List ℤ) → All (FitsIn width) values
    → values_in width (flat_map (bytes_of width) values) ≡ values
values_back width [] fit = ap (λ n. map (value_in_bytes width) (first_chunks (byte_count width) n [])) (div-eq_of_lt (some_bytes width))
values_back width (value ∷ values) fit =
    let rest = flat_map (bytes_of width) values in
    values_in-append width (bytes_of width value) rest (length-bytes_of width value)
    ∙ ap (λ v. v ∷ values_in width rest) (value_back width value (All-head (FitsIn width) value values fit))
    ∙ ap (λ vs. value ∷ vs) (values_back width values (All-tail (FitsIn width) value values fit))

-- bytes in which one more value is written behind the others
pub written_more : (width : Width) (count i part : ℕ) (bytes written : List ℕ) (values : List ℤ)
    → count ≡ byte_count width → i < length values
    → length bytes ≡ length values * byte_count width → take (i * count) bytes ≡ flat_map (bytes_of width) (take i values)
    → written ≡ bytes_of width (get_or values i (pos 0))
    → take ((i + 1) * count) (put_mid (i * count) part bytes written) ≡ flat_map (bytes_of width) (take (i + 1) values)
written_more width count i part bytes written values count_is inside long before written_is =
    let value = get_or values i (pos 0) in
    let size : length written ≡ count = ap length written_is ∙ length-bytes_of width value ∙ sym count_is in
    let all : length bytes ≡ length values * count = long ∙ ap (λ n. length values * n) (sym count_is) in
    let i_le : i ≤ length values = omega arith in
    let below = mul-le-mul_right count i_le in
    take-put_mid (i * count) part bytes written ((i + 1) * count) (omega arith) (omega arith)
    ∙ ap (λ front. front ++ written) before ∙ ap (λ back. flat_map (bytes_of width) (take i values) ++ back) written_is
    ∙ flat_map_more (bytes_of width) [] (take i values) value ∙ ap (flat_map (bytes_of width)) (sym (take_more values i (pos 0) inside))

-- All bits of the magnitudes of values: they are below a power of two where each magnitude is.
pub record AreBitsOf (bits : ℕ) (values : List ℤ) : Type 0 where
  pub each : (k : ℕ) → bits < 2 ^ k → All (λ v. mag v < 2 ^ k) values
  pub all : (k : ℕ) → All (λ v. mag v < 2 ^ k) values → bits < 2 ^ k

pub bits_more : (bits i : ℕ) (values : List ℤ) → i < length values → AreBitsOf bits (take i values)
    → AreBitsOf (bit_or bits (mag (get_or values i (pos 0)))) (take (i + 1) values)
bits_more bits i values inside are =
    let value = get_or values i (pos 0) in let size = mag value in let before = take i values in
    let left = le_or_l bits size in let right = le_or_r bits size in
    subst (AreBitsOf (bit_or bits size)) (sym (take_more values i (pos 0) inside)) (record {
      each = λ k low. All-push (λ v. mag v < 2 ^ k) before value (are.each k (omega arith)) (omega arith);
      all = λ k low.
          let parts = All-pop (λ v. mag v < 2 ^ k) (before ++ value ∷ []) before (Some value) refl low in
          or_lt k bits size (are.all k parts.0) parts.1;
    })

-- more bits than any smaller width has
abbrev pub Needs : Width → ℕ → Type 0
Needs One bits = Unit {0}
Needs Two bits = 2 ^ 7 ≤ bits
Needs Four bits = 2 ^ 15 ≤ bits
Needs Eight bits = 2 ^ 31 ≤ bits

no_fewer : (width other : Width) (bits : ℕ) → Needs width bits → bits < 2 ^ hbits (integer other) → byte_count width ≤ byte_count other
no_fewer One other bits needs low = omega (arith, some_bytes other)
no_fewer Two One bits needs low = omega arith
no_fewer Two other bits needs low = omega arith
no_fewer Four One bits needs low = omega arith
no_fewer Four other bits needs low = omega arith
no_fewer Eight One bits needs low = omega arith
no_fewer Eight other bits needs low = omega arith

-- the width that the bits of values need is the least
pub least_width : (width : Width) (bits i : ℕ) (values : List ℤ) → length values ≤ i → AreBitsOf bits (take i values)
    → bits < 2 ^ hbits (integer width) → Needs width bits → IsLeastFor width values
least_width width bits i values end before low needs =
    let Below = λ (w : Width) (v : ℤ). mag v < 2 ^ hbits (integer w) in
    let are = subst (AreBitsOf bits) (take_all i values end) before in
    record {
      fit = All-weaker (Below width) (FitsIn width) (λ v h. record { sfits = h }) values (are.each (hbits (integer width)) low);
      least = λ other fit.
          let below = All-weaker (FitsIn other) (Below other) (λ v h. h.sfits) values fit in
          no_fewer width other bits needs (are.all (hbits (integer other)) below);
    }

-- bytes of values in their least width give them back, and are packed
pub packed_back : (width : Width) (bytes : List ℕ) (values : List ℤ) → IsLeastFor width values
    → bytes ≡ flat_map (bytes_of width) values → values_in width bytes ≡ values
packed_back width bytes values least whole = ap (values_in width) whole ∙ values_back width values least.fit

pub packed : (width : Width) (bytes : List ℕ) (values : List ℤ) → IsLeastFor width values
    → bytes ≡ flat_map (bytes_of width) values → IsPacked width bytes (values_in width bytes)
packed width bytes values least whole =
    subst (IsPacked width bytes) (sym (packed_back width bytes values least whole)) (record { least = least; whole = whole })
