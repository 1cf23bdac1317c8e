-- The worked programs' lists follow them.
use Rattle.std.proofs.Common.{◌≡◌, inl, inr, pos, true, false, [], ◌∷◌, refl, Some, None, arith}
use Rattle.acc_batch.specs.declared.entry.Told.TheVariants as told
use Rattle.acc_host.specs.declared.state.HostState.TheVariants as state
use Rattle.acc_host.specs.Engines.{Gave, Had}
use Rattle.acc_host.specs.worked.Hosts.{answered, counts_of, asked, sync_create, writes_and_creates, waiting, QuestionsAreAnswered, SynchronousIsSeen, DefaultStays}
use Rattle.acc_host.specs.Following.{Follows}
use Rattle.acc_host.specs.Steps.{alone, nothing_owed, owes_seen}

pub questions_follow : QuestionsAreAnswered
questions_follow = (
  record {
    past = asked;
    behind = [];
    parts = refl;
    ends = (
      _,
      _,
      refl,
      (answered (Some (3, 1)) (counts_of 0) false, [], refl, refl),
      (
        _,
        _,
        refl,
        (answered None (counts_of 1) false, _, refl, (false, refl)),
        (
          _,
          _,
          refl,
          (answered None (counts_of 0) false, [], refl, refl),
          (
            _,
            _,
            refl,
            (answered None (counts_of 1) false, _, refl, refl),
            (
              _,
              _,
              refl,
              (answered None (counts_of 1) false, _, refl, (true, refl)),
              (
                [],
                _,
                refl,
                (omega arith, refl),
                (
                  [],
                  _,
                  refl,
                  refl,
                  (
                    [],
                    _,
                    refl,
                    refl,
                    (_, [], refl, (answered None (counts_of 0) false, [], refl, refl), refl),
                  ),
                ),
              ),
            ),
          ),
        ),
      ),
    );
    begins = inl refl;
  },
  refl,
)

some_owed : owes_seen 0 (alone 0 1) ≡ nothing_owed → ⊥
some_owed e = cc

waiting_follows : Follows 1 writes_and_creates (state.Running 1) waiting
waiting_follows = record {
  past = Had (told.Write 0 0 (pos 7)) ∷ [];
  behind = Gave sync_create (answered (Some (0, 1)) (counts_of 0) false) ∷ [];
  parts = refl;
  ends = (_, [], refl, refl, refl);
  begins = inr (answered (Some (0, 1)) (counts_of 0) false, refl, some_owed);
}

pub seen_follows : SynchronousIsSeen
seen_follows = (waiting_follows, (_, _, refl, refl, (_, [], refl, (answered (Some (0, 1)) (counts_of 0) false, _, refl, refl), refl)))

pub default_follows : DefaultStays
default_follows = ([], _, refl, (refl, refl), ([], _, refl, (refl, refl), (_, [], refl, (answered (Some (6, 1)) (counts_of 0) false, [], refl, refl), refl)))
