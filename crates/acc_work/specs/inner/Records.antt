-- What runs beside a log: how many items each host has, and the pages to come.
use Rattle.std.specs.Prelude.{◌≡◌, ℕ, ◌+◌, ◌<◌, List, [], length, slice_index_or}
use Rattle.std.specs.List.{All, sum_by}
use Rattle.acc_base.specs.declared.config.TheConstants.{MAX_HOSTS}
use Rattle.acc_batch.specs.Pages.{PageView}
use Rattle.acc_batch.specs.declared.entry.WorkEntry.{WorkEntry}
use Rattle.acc_work.specs.Logs.{items_of, all_items}

-- A log: its entries, the latest first; for how many more there is room; and how many of these nobody has claimed.
pub record LogView : Type 0 where
  pub work : List WorkEntry
  pub free : ℕ
  pub unclaimed : ℕ

-- So many were claimed: there is room for them beside all that was claimed before, and for what is still unclaimed.
pub record HasClaimed (count : ℕ) (old new : LogView) : Type 0 where
  pub work : new.work ≡ old.work
  pub room : old.free + new.unclaimed + count ≡ new.free + old.unclaimed

-- the counters of the hosts' items
abbrev pub AreCounted : List ℕ → List WorkEntry → Type 0
AreCounted items work = (h : ℕ) → h < length items → slice_index_or items h 0 ≡ items_of h work

-- a page without an entry, and with room for one
pub record IsBlank (page : PageView) : Type 0 where
  pub empty : page.items ≡ []
  pub some : 0 < page.free

-- for how many entries pages have room
abbrev pub all_free : List PageView → ℕ
all_free pages = sum_by (λ page. page.free) pages

-- What every log keeps: running counts of items, and pages to come that are blank.
pub record IsLog (work : List WorkEntry) (items : List ℕ) (all : ℕ) (to_come : List PageView) : Type 0 where
  pub counters : length items ≡ MAX_HOSTS
  pub counted : AreCounted items work
  pub all_counted : all ≡ all_items work
  pub blank : All IsBlank to_come
