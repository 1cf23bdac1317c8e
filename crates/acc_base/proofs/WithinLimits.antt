-- Where there is no fault, every limit is kept.
use Rattle.std.proofs.Common.{◌≡◌, ◌≤◌, ℕ, Bool, true, false, cond, List, [], ◌∷◌, length, Some, None, arith, refl}
use Rattle.std.specs.Prelude.{ℤ, All, ◌||◌, ◌==◌, nat_lt}
use Rattle.std.proofs.lemmas.Bool.{or_parts, ltb-false, eq-eqb}
use Rattle.std.proofs.lemmas.List.Elements.{All-nil, All-cons}
use Rattle.acc_base.specs.declared.fault.Fault.TheVariants.{BadDevice, BadRange, TooMany}
use Rattle.std.proofs.lemmas.Bool.Decides.{nat_tests}
use Rattle.acc_base.specs.Configurations.{Configuration, IsWithinLimits, is_outside, passes_a_limit, has_long_array, has_empty_array, fault_of}
use Rattle.acc_base.specs.declared.config.TheConstants.{MAX_DEVICES, MAX_HOSTS, MAX_ARRAYS, MAX_CELLS, MAX_CAPACITY, MAX_ROOM}

-- the three tests that the first fault asks in turn
no_test_holds : (devices counts cells : Bool) → cond devices (Some BadDevice) (cond counts (Some TooMany) (cond cells (Some BadRange) None)) ≡ None
    → (devices ≡ false) × (counts ≡ false) × (cells ≡ false)
no_test_holds true counts cells h = cc
no_test_holds false true cells h = cc
no_test_holds false false true h = cc
no_test_holds false false false h = (refl, refl, refl)

inside : (limit n : ℕ) → is_outside limit n ≡ false → (1 ≤ n) × (n ≤ limit)
inside limit n h = (grind (arith, nat_tests, h), grind (arith, nat_tests, h))

abbrev IsFilled : List ℤ → Type 0
IsFilled cells = (1 ≤ length cells) × (length cells ≤ MAX_CELLS)

each_within : (arrays : List (List ℤ)) → has_long_array arrays ≡ false → has_empty_array arrays ≡ false → All IsFilled arrays
each_within [] long empty = All-nil IsFilled
each_within (cells ∷ arrays) long empty =
    let l = or_parts (nat_lt MAX_CELLS (length cells)) (has_long_array arrays) long in
    let e = or_parts (length cells == 0) (has_empty_array arrays) empty in
    let some : length cells ≡ 0 → ⊥ = λ none. (let t = eq-eqb (length cells) 0 none in let f = e.0 in cc) in
    All-cons IsFilled cells arrays (omega arith, ltb-false MAX_CELLS (length cells) l.0) (each_within arrays l.1 e.1)

pub within_limits : (c : Configuration) → fault_of c ≡ None → IsWithinLimits c
within_limits c h =
    let tests = no_test_holds (is_outside MAX_DEVICES c.devices) (passes_a_limit c.hosts c.arrays c.capacity c.room) (has_empty_array c.arrays) h in
    let is_long = nat_lt MAX_ARRAYS (length c.arrays) || has_long_array c.arrays in
    let is_far = is_outside MAX_CAPACITY c.capacity || is_outside MAX_ROOM c.room in
    let hosts = or_parts (nat_lt MAX_HOSTS c.hosts) (is_long || is_far) tests.1 in
    let rest = or_parts is_long is_far hosts.1 in
    let arrays = or_parts (nat_lt MAX_ARRAYS (length c.arrays)) (has_long_array c.arrays) rest.0 in
    let last = or_parts (is_outside MAX_CAPACITY c.capacity) (is_outside MAX_ROOM c.room) rest.1 in
    record {
      devices = inside MAX_DEVICES c.devices tests.0;
      hosts = ltb-false MAX_HOSTS c.hosts hosts.0;
      arrays = ltb-false MAX_ARRAYS (length c.arrays) arrays.0;
      cells = each_within c.arrays arrays.1 tests.2;
      capacity = inside MAX_CAPACITY c.capacity last.0;
      room = inside MAX_ROOM c.room last.1;
    }
