-- Events that loops put behind one another.
use Rattle.std.proofs.Common.{◌≡◌, ℕ, zero, suc, ◌+◌, ◌*◌, List, [], ◌∷◌, ◌++◌, length, map, append_assoc, length-append, refl, sym, ap, ◌∙◌, arith}
use Rattle.std.proofs.lemmas.List.{append-nil, flat_map_more, length-map, map-id}
use native.Mathlib.Nat.{mul-suc, mul_comm}
use Rattle.std.proofs.lemmas.List.FromFn.{map-range_with_len_more, length-range_with_len}
use Rattle.std.specs.List.{flat_map, range_with_len}
use Rattle.acc_base.specs.declared.ids.TheConstants.{QUEUES}
use Rattle.acc_host.specs.declared.event.Event.{Event}
use Rattle.acc_host.specs.declared.event.Event.TheVariants.{Host}
use Rattle.acc_schedule.specs.Schedules.{repeated, device_turn, turn_of}

range-more : (n : ℕ) → range_with_len 0 (n + 1) ≡ range_with_len 0 n ++ n ∷ []
range-more n =
    sym (map-id (range_with_len 0 (n + 1)))
    ∙ map-range_with_len_more (λ (i : ℕ). i) 0 n n (omega arith)
    ∙ ap (λ is. is ++ n ∷ []) (map-id (range_with_len 0 n))

-- one more in a row of single events
pub map-more : (f : ℕ → Event) (old : List Event) (n : ℕ) → old ++ map f (range_with_len 0 (n + 1)) ≡ (old ++ map f (range_with_len 0 n)) ++ f n ∷ []
map-more f old n =
    ap (λ fs. old ++ fs) (map-range_with_len_more f 0 n n (omega arith))
    ∙ sym (append_assoc old (map f (range_with_len 0 n)) (f n ∷ []))

-- one more in a row of turns
pub flat_map-more : (f : ℕ → List Event) (old : List Event) (n : ℕ) → old ++ flat_map f (range_with_len 0 (n + 1)) ≡ (old ++ flat_map f (range_with_len 0 n)) ++ f n
flat_map-more f old n =
    ap (λ is. old ++ flat_map f is) (range-more n)
    ∙ sym (flat_map_more f old (range_with_len 0 n) n)

-- so many turns, and so many more
pub repeated-more : (turn : List Event) (n m : ℕ) → repeated (n + m) turn ≡ repeated n turn ++ repeated m turn
repeated-more turn zero m =
    let none : zero + m ≡ m = omega arith in
    ap (λ k. repeated k turn) none
repeated-more turn (suc n) m =
    let one : suc n + m ≡ suc (n + m) = omega arith in
    ap (λ k. repeated k turn) one ∙ (ap (λ es. turn ++ es) (repeated-more turn n m) ∙ sym (append_assoc turn (repeated n turn) (repeated m turn)))

-- one turn more
pub repeated-next : (turn : List Event) (n : ℕ) → repeated (n + 1) turn ≡ repeated n turn ++ turn
repeated-next turn n = repeated-more turn n 1 ∙ ap (λ es. repeated n turn ++ es) (append-nil turn)

-- ## How many

length-devices : (ds : List ℕ) → length (flat_map device_turn ds) ≡ 2 * QUEUES * length ds
length-devices [] = refl
length-devices (d ∷ ds) =
    let one : length (device_turn d) ≡ 2 * QUEUES = refl in
    length-append (device_turn d) (flat_map device_turn ds) ∙ omega (arith, one, length-devices ds)

pub round_length : (hosts devices : ℕ) → length (turn_of hosts devices) ≡ hosts + 2 * QUEUES * devices
round_length hosts devices =
    length-append (map (λ h. Host h) (range_with_len 0 hosts)) (flat_map device_turn (range_with_len 0 devices))
    ∙ omega (arith, length-map (range_with_len 0 hosts) (λ h. Host h), length-devices (range_with_len 0 devices), length-range_with_len 0 hosts, length-range_with_len 0 devices)

suc_mul : (n m : ℕ) → suc n * m ≡ m + n * m
suc_mul n m = mul_comm (suc n) m ∙ mul-suc m n ∙ omega (arith, mul_comm m n)

pub repeated_length : (turn : List Event) (n : ℕ) → length (repeated n turn) ≡ n * length turn
repeated_length turn zero = omega arith
repeated_length turn (suc n) =
    let more : suc n * length turn ≡ length turn + n * length turn = suc_mul n (length turn) in
    length-append turn (repeated n turn) ∙ omega (arith, more, repeated_length turn n)
