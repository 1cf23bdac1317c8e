-- A report doesn't tell which ids the directives of a program have.
use Rattle.std.proofs.Common.{◌≡◌, ℕ, zero, suc, List, [], ◌∷◌, ◌++◌, length, map, refl, sym, ap, ◌∙◌, Some, None, Option}
use Rattle.std.specs.Prelude.{drop, take, slice_get, ℤ, codes, decimal}
use Rattle.std.specs.List.{flat_map}
use Rattle.std.specs.Option.{option_map}
use Rattle.std.proofs.lemmas.List.{take-map}
use Rattle.std.proofs.lemmas.Option.{slice_get-map}
use Rattle.acc_host.specs.declared.program.Act.{Act}
use Rattle.acc_host.specs.declared.program.Act.TheVariants as act
use Rattle.acc_host.specs.declared.program.HostProgram.{HostProgram}
use Rattle.acc_host.specs.declared.program.Statement.{Statement}
use Rattle.acc_host.specs.declared.state.HostState.{HostState}
use Rattle.acc_host.specs.declared.state.HostState.TheVariants as state
use Rattle.acc_host.specs.Engines.{HostEntry}
use Rattle.acc_host.specs.Hosts.{bare, bare_act, bare_statements}
use Rattle.acc_report.specs.Lines.{each_below, line_text, state_text}
use Rattle.acc_report.specs.Prints.{device_after, entries_taken, statement_lines, printed_lines}
use Rattle.acc_report.specs.Reports.{Left, IdsAreNotTold, device_text, queues_text, ended_in, entries_left, host_text, host_text_by, nth_host_text, report}

-- ## One statement

line_bare : (devices device : ℕ) (a : Act) (es : List HostEntry) → statement_lines devices device (bare_act a) es ≡ statement_lines devices device a es
line_bare devices device (act.Place d) es = refl
line_bare devices device (act.Print range) es = refl
line_bare devices device (act.Write array cell value) es = refl
line_bare devices device (act.SetDevice n) es = refl
line_bare devices device (act.SetAsync v) es = refl
line_bare devices device act.ShowDevice es = refl
line_bare devices device act.ShowDevices es = refl

device_bare : (a : Act) (device : ℕ) → device_after (bare_act a) device ≡ device_after a device
device_bare (act.Place d) device = refl
device_bare (act.Print range) device = refl
device_bare (act.Write array cell value) device = refl
device_bare (act.SetDevice n) device = refl
device_bare (act.SetAsync v) device = refl
device_bare act.ShowDevice device = refl
device_bare act.ShowDevices device = refl

taken_bare : (a : Act) (es : List HostEntry) → entries_taken (bare_act a) es ≡ entries_taken a es
taken_bare (act.Place d) es = refl
taken_bare (act.Print range) es = refl
taken_bare (act.Write array cell value) es = refl
taken_bare (act.SetDevice n) es = refl
taken_bare (act.SetAsync v) es = refl
taken_bare act.ShowDevice es = refl
taken_bare act.ShowDevices es = refl

-- ## All that a host has ended

lines_bare : (devices device : ℕ) (statements : List Statement) (es : List HostEntry) → printed_lines devices device (map bare statements) es ≡ printed_lines devices device statements es
lines_bare devices device [] es = refl
lines_bare devices device (s ∷ statements) es =
    let rest = drop (entries_taken s.act es) es in
    rw (line_bare devices device s.act es, device_bare s.act device, taken_bare s.act es)
    (ap (λ (more : List (List ℤ)). statement_lines devices device s.act es ++ more) (lines_bare devices (device_after s.act device) statements rest))

ended_bare : (here : HostState) (statements : List Statement) → ended_in here (map bare statements) ≡ map bare (ended_in here statements)
ended_bare state.Finished statements = refl
ended_bare (state.Running ended) statements = take-map bare ended statements
ended_bare (state.Refused ended line fault) statements = take-map bare ended statements

-- ## Hosts, and the report

lines_same : (devices : ℕ) (here : HostState) (program other : HostProgram) (es : List HostEntry) → bare_statements program ≡ bare_statements other
    → printed_lines devices 0 (ended_in here program.statements) es ≡ printed_lines devices 0 (ended_in here other.statements) es
lines_same devices here program other es same =
    let bared : (p : HostProgram) → printed_lines devices 0 (ended_in here p.statements) es ≡ printed_lines devices 0 (ended_in here (bare_statements p)) es =
    λ p. sym (lines_bare devices 0 (ended_in here p.statements) es) ∙ ap (λ (ss : List Statement). printed_lines devices 0 ss es) (sym (ended_bare here p.statements)) in
    bared program ∙ (ap (λ (ss : List Statement). printed_lines devices 0 (ended_in here ss) es) same ∙ sym (bared other))

host_same : (left : Left) (h : ℕ) (program other : HostProgram) (here : HostState) → bare_statements program ≡ bare_statements other
    → host_text left h program here ≡ host_text left h other here
unfolding host_text
host_same left h program other here same =
    ap (λ (ls : List (List ℤ)). codes "host " ++ (decimal h ++ (codes "\n" ++ (flat_map line_text ls ++ state_text here))))
    (lines_same left.config.devices here program other (entries_left left h) same)

by_same : (left : Left) (h : ℕ) (program other : Option HostProgram) (here : Option HostState) → option_map bare_statements program ≡ option_map bare_statements other
    → host_text_by left h program here ≡ host_text_by left h other here
by_same left h None None here same = refl
by_same left h None (Some q) here same = absurd (let off = same in cc)
by_same left h (Some p) None here same = absurd (let off = same in cc)
by_same left h (Some p) (Some q) None same = refl
by_same left h (Some p) (Some q) (Some here) same = host_same left h p q here cc

each_same : (n : ℕ) (text other : ℕ → List ℕ) → ((k : ℕ) → text k ≡ other k) → each_below n text ≡ each_below n other
each_same zero text other same = refl
each_same (suc n) text other same = ap (λ (before : List ℕ). before ++ text n) (each_same n text other same) ∙ ap (λ (here : List ℕ). each_below n other ++ here) (same n)

pub ids_are_not_told : IdsAreNotTold
unfolding report
ids_are_not_told names programs others left same =
    let nth : (h : ℕ) → nth_host_text left programs h ≡ nth_host_text left others h =
    λ h. by_same left h (slice_get programs h) (slice_get others h) (slice_get left.hosts h)
    (sym (slice_get-map bare_statements programs h) ∙ (ap (λ (all : List (List Statement)). slice_get all h) same ∙ slice_get-map bare_statements others h)) in
    ap (λ (hosts : List ℕ). hosts ++ (each_below left.config.devices (device_text names left) ++ (each_below left.config.devices (queues_text left) ++ codes "end\n")))
    (each_same (length left.hosts) (nth_host_text left programs) (nth_host_text left others) nth)
