-- What a place shows of its parts.
use Rattle.std.specs.Prelude.{is_some, map, vec_capacity, ◌-◌}
use Rattle.acc_place.specs.declared.place.Place.TheInside.{Inside}
use Rattle.acc_place.specs.inner.Places.{closing_entries}
use Rattle.acc_place.specs.Plans.{PlaceView, Room}
use Rattle.acc_place.proofs.StandingIn.{viewed}

abbrev pub room_of : Inside → Room
room_of w =
    record {
      entries = vec_capacity w.history - closing_entries w.config;
      counts = vec_capacity w.counts;
      answers = vec_capacity w.answers;
      regions = vec_capacity w.regions;
      batches = w.labels.room;
      ranges = map (λ v. v.table.room) w.devices.items;
    }

abbrev pub seen_with : Inside → Room → PlaceView
seen_with w room = viewed w.config w.history.items w.counts.items (map (λ c. is_some c.batch) w.closes.items) room

abbrev pub seen : Inside → PlaceView
seen w = seen_with w (room_of w)
