-- What the locks hold may go from one thread to another, so threads may share a runtime; and so may a host's token.
use Rattle.std.proofs.Crossing.{crosses}
use base.Fml.{Lft}
use mir.Syntax.{Lifetime}
use denote.Param.Send.{IsSend, IsSync, sendable, shr_send}
use denote.Ref.{ShrRef}
use denote.Enum.Enum.{Enum}
use denote.Enum.Declared.{shape}
use Rattle.acc_raw.proofs.cells.Cells.TheSendSync as cells
use Rattle.acc_raw.proofs.chain.Chain.TheSendSync as chain
use Rattle.acc_raw.proofs.indexed.Indexed.TheSendSync as indexed
use Rattle.acc_raw.proofs.link.Node.TheSendSync as node
use Rattle.acc_kernel.specs.contracts.expr.Expr as expr
use Rattle.acc_kernel.specs.contracts.assign.Assign as assign
use Rattle.acc_kernel.specs.contracts.kernel.Kernel as kernel
use Rattle.acc_batch.specs.contracts.label.OpLabel as op_label
use Rattle.acc_batch.specs.contracts.label.Label as label
use Rattle.acc_batch.specs.contracts.op.Block as block
use Rattle.acc_batch.specs.contracts.op.Op as op
use Rattle.acc_batch.specs.contracts.page.Page as page
use Rattle.acc_batch.specs.contracts.batch.Batch as batch
use Rattle.acc_place.specs.contracts.directive.Clause as clause
use Rattle.acc_place.specs.contracts.directive.DataItem as data_item
use Rattle.acc_place.specs.contracts.directive.Target as target
use Rattle.acc_place.specs.contracts.directive.Kind as kind
use Rattle.acc_place.specs.contracts.directive.Waits as waits
use Rattle.acc_place.specs.contracts.directive.Written as written
use Rattle.acc_place.specs.contracts.directive.Directive as directive
use Rattle.acc_base.specs.contracts.config.Config as config
use Rattle.acc_place.specs.contracts.directive.PlaceEntry as place_entry
use Rattle.acc_place.specs.contracts.directive.Region as region
use Rattle.acc_place.specs.contracts.directive.Placed as placed
use Rattle.acc_place.specs.contracts.answer.Answer as answer
use Rattle.acc_place.specs.contracts.closes.Close as close
use Rattle.acc_present.specs.contracts.entry.Entry as entry
use Rattle.acc_present.specs.contracts.entries.Entries as entries
use Rattle.acc_present.specs.contracts.table.Table as table
use Rattle.acc_present.specs.contracts.draft.Draft as draft
use Rattle.acc_place.specs.contracts.device.Device as device
use Rattle.acc_place.specs.contracts.labels.Labels as labels
use Rattle.acc_place.specs.contracts.trial.Trial as trial
use Rattle.acc_place.specs.contracts.place.Place as place
use Rattle.acc_batch.specs.contracts.entry.Told as told
use Rattle.acc_batch.specs.contracts.entry.WorkEntry as work_entry
use Rattle.acc_work.specs.contracts.work_log.WorkLog as work_log
use Rattle.acc_work.specs.contracts.log.Log as log
use Rattle.acc_work.specs.contracts.lane.Lane as lane
use Rattle.acc_memory.specs.contracts.blocks.Blocks as blocks
use Rattle.acc_memory.specs.contracts.makes.Makes as makes
use Rattle.acc_memory.specs.contracts.memory.Memory as memory
use Rattle.acc_work.specs.contracts.work.Work as work
use Rattle.acc_queue.specs.contracts.activity.Sender as sender
use Rattle.acc_queue.specs.contracts.activity.Taker as taker
use Rattle.acc_queue.specs.contracts.progress.Publisher as publisher
use Rattle.acc_queue.specs.contracts.progress.Reader as reader
use Rattle.acc_run.specs.contracts.place_side.PlaceSide as place_side
use Rattle.acc_run.specs.contracts.work_side.WorkSide as work_side
use Rattle.acc_run.specs.contracts.runtime.Runtime as runtime
use Rattle.acc_run.specs.contracts.workers.Crew as crew
use Rattle.acc_host.specs.contracts.program.Act as act
use Rattle.acc_host.specs.contracts.program.Statement as statement
use Rattle.acc_host.specs.contracts.host.Host as host
use Rattle.acc_run.specs.contracts.token.TokenEntry as token_entry
use Rattle.acc_run.specs.contracts.token.HostToken as token
use Rattle.acc_run.specs.contracts.marks.Marks as marks
use Rattle.atomic_table.proofs.shared.Seat.TheSendSync as seat
use Rattle.atomic_table.proofs.shared.Shared.TheSendSync as shared
use Rattle.atomic_table.proofs.send_lease.SendLease.TheSendSync as lease

expr_sends : IsSend expr.the_row
expr_sends = search (sendable, crosses) depth 60 fits 9000

expr_syncs : IsSync expr.the_row
expr_syncs = search (sendable, crosses) depth 60 fits 9000

assign_sends : IsSend assign.the_row
assign_sends = search (sendable, crosses, expr_sends) depth 60 fits 9000

assign_syncs : IsSync assign.the_row
assign_syncs = search (sendable, crosses, expr_syncs) depth 60 fits 9000

kernel_sends : IsSend kernel.the_row
kernel_sends = search (sendable, crosses, assign_sends) depth 60 fits 9000

kernel_syncs : IsSync kernel.the_row
kernel_syncs = search (sendable, crosses, assign_syncs) depth 60 fits 9000

op_label_form_sends : IsSend (Enum (shape op_label.the_type))
op_label_form_sends = search (sendable, crosses, kernel_sends, kernel_syncs) depth 60 fits 9000

op_label_form_syncs : IsSync (Enum (shape op_label.the_type))
op_label_form_syncs = search (sendable, crosses, kernel_sends, kernel_syncs) depth 60 fits 9000

op_label_sends : IsSend op_label.the_row
op_label_sends = search (sendable, crosses, op_label_form_sends) depth 60 fits 9000

op_label_syncs : IsSync op_label.the_row
op_label_syncs = search (sendable, crosses, op_label_form_syncs) depth 60 fits 9000

label_sends : IsSend label.the_row
label_sends = search (sendable, crosses, op_label_sends, op_label_syncs) depth 60 fits 9000

block_sends : IsSend block.the_row
block_sends = search (sendable, crosses, cells.the_send) depth 60 fits 9000

op_form_sends : IsSend (Enum (shape op.the_type))
op_form_sends = search (sendable, crosses, kernel_sends, kernel_syncs, node.the_send, block_sends) depth 60 fits 9000

op_sends : IsSend op.the_row
op_sends = search (sendable, crosses, op_form_sends) depth 60 fits 9000

told_form_sends : IsSend (Enum (shape told.the_type))
told_form_sends = search (sendable, crosses) depth 60 fits 9000

work_entry_form_sends : IsSend (Enum (shape work_entry.the_type))
work_entry_form_sends = search (sendable, crosses, told_form_sends, op_label_form_sends) depth 60 fits 9000

work_entry_sends : IsSend work_entry.the_row
work_entry_sends = search (sendable, crosses, work_entry_form_sends) depth 60 fits 9000

page_sends : IsSend page.the_row
page_sends = search (sendable, crosses, work_entry_sends) depth 60 fits 9000

batch_sends : IsSend batch.the_row
batch_sends = search (sendable, crosses, label_sends, op_sends, page_sends, node.the_send) depth 60 fits 9000

clause_form_sends : IsSend (Enum (shape clause.the_type))
clause_form_sends = search (sendable, crosses) depth 60 fits 9000

clause_form_syncs : IsSync (Enum (shape clause.the_type))
clause_form_syncs = search (sendable, crosses) depth 60 fits 9000

data_item_sends : IsSend data_item.the_row
data_item_sends = search (sendable, crosses, clause_form_sends) depth 60 fits 9000

data_item_syncs : IsSync data_item.the_row
data_item_syncs = search (sendable, crosses, clause_form_syncs) depth 60 fits 9000

target_form_sends : IsSend (Enum (shape target.the_type))
target_form_sends = search (sendable, crosses) depth 60 fits 9000

target_form_syncs : IsSync (Enum (shape target.the_type))
target_form_syncs = search (sendable, crosses) depth 60 fits 9000

kind_form_sends : IsSend (Enum (shape kind.the_type))
kind_form_sends = search (sendable, crosses, kernel_sends, kernel_syncs) depth 60 fits 9000

kind_form_syncs : IsSync (Enum (shape kind.the_type))
kind_form_syncs = search (sendable, crosses, kernel_sends, kernel_syncs) depth 60 fits 9000

waits_form_sends : IsSend (Enum (shape waits.the_type))
waits_form_sends = search (sendable, crosses) depth 60 fits 9000

waits_form_syncs : IsSync (Enum (shape waits.the_type))
waits_form_syncs = search (sendable, crosses) depth 60 fits 9000

written_sends : IsSend written.the_row
written_sends = search (sendable, crosses, kind_form_sends, waits_form_sends, data_item_sends, target_form_sends) depth 60 fits 9000

written_syncs : IsSync written.the_row
written_syncs = search (sendable, crosses, kind_form_syncs, waits_form_syncs, data_item_syncs, target_form_syncs) depth 60 fits 9000

directive_sends : IsSend directive.the_row
directive_sends = search (sendable, crosses, written_sends, written_syncs) depth 60 fits 9000

config_sends : IsSend config.the_row
config_sends = search (sendable, crosses) depth 60 fits 9000

place_entry_form_sends : IsSend (Enum (shape place_entry.the_type))
place_entry_form_sends = search (sendable, crosses, directive_sends) depth 60 fits 9000

place_entry_sends : IsSend place_entry.the_row
place_entry_sends = search (sendable, crosses, place_entry_form_sends) depth 60 fits 9000

region_sends : IsSend region.the_row
region_sends = search (sendable, crosses, data_item_sends) depth 60 fits 9000

placed_sends : IsSend placed.the_row
placed_sends = search (sendable, crosses) depth 60 fits 9000

answer_sends : IsSend answer.the_row
answer_sends = search (sendable, crosses, placed_sends) depth 60 fits 9000

close_sends : IsSend close.the_row
close_sends = search (sendable, crosses, label_sends, batch_sends) depth 60 fits 9000

entry_sends : IsSend entry.the_row
entry_sends = search (sendable, crosses) depth 60 fits 9000

entries_sends : IsSend entries.the_row
entries_sends = search (sendable, crosses, entry_sends, indexed.the_send, chain.the_send) depth 60 fits 9000

table_sends : IsSend table.the_row
table_sends = search (sendable, crosses, entries_sends) depth 60 fits 9000

draft_sends : IsSend draft.the_row
draft_sends = search (sendable, crosses, entry_sends) depth 60 fits 9000

device_sends : IsSend device.the_row
device_sends = search (sendable, crosses, table_sends) depth 60 fits 9000

labels_sends : IsSend labels.the_row
labels_sends = search (sendable, crosses, label_sends) depth 60 fits 9000

trial_sends : IsSend trial.the_row
trial_sends = search (sendable, crosses, draft_sends, data_item_sends) depth 60 fits 9000

place_sends : IsSend place.the_row
place_sends = search (sendable, crosses, config_sends, device_sends, place_entry_sends, answer_sends, close_sends, region_sends, labels_sends, trial_sends) depth 60 fits 9000

work_log_sends : IsSend work_log.the_row
work_log_sends = search (sendable, crosses, page_sends, chain.the_send, node.the_send) depth 60 fits 9000

log_sends : IsSend log.the_row
log_sends = search (sendable, crosses, work_log_sends, page_sends, chain.the_send) depth 60 fits 9000

lane_sends : IsSend lane.the_row
lane_sends = search (sendable, crosses, label_sends, op_sends, chain.the_send) depth 60 fits 9000

blocks_sends : IsSend blocks.the_row
blocks_sends = search (sendable, crosses, block_sends, chain.the_send) depth 60 fits 9000

makes_sends : IsSend makes.the_row
makes_sends = search (sendable, crosses, chain.the_send) depth 60 fits 9000

memory_sends : IsSend memory.the_row
memory_sends = search (sendable, crosses, blocks_sends, makes_sends) depth 60 fits 9000

work_sends : IsSend work.the_row
work_sends = search (sendable, crosses, memory_sends, log_sends, lane_sends) depth 60 fits 9000

sender_sends : IsSend sender.the_row
sender_sends = search (sendable, crosses, shared.the_send, shared.the_sync, lease.the_send, lease.the_sync, seat.the_send, batch_sends) depth 60 fits 9000

taker_sends : IsSend taker.the_row
taker_sends = search (sendable, crosses, shared.the_send, shared.the_sync, lease.the_send, lease.the_sync, seat.the_send, batch_sends) depth 60 fits 9000

place_side_sends : IsSend place_side.the_row
place_side_sends = search (sendable, crosses, place_sends, sender_sends) depth 60 fits 9000

publisher_sends : IsSend publisher.the_row
publisher_sends = search (sendable, crosses, shared.the_send, shared.the_sync, lease.the_send, lease.the_sync, seat.the_send) depth 60 fits 9000

pub reader_sends : IsSend reader.the_row
reader_sends = search (sendable, crosses, shared.the_send, shared.the_sync, lease.the_send, lease.the_sync, seat.the_send) depth 60 fits 9000

work_side_sends : IsSend work_side.the_row
work_side_sends = search (sendable, crosses, work_sends, taker_sends, config_sends, publisher_sends) depth 60 fits 9000

config_syncs : IsSync config.the_row
config_syncs = search (sendable, crosses) depth 60 fits 9000

pub runtime_syncs : IsSync runtime.the_row
runtime_syncs = search (sendable, crosses, place_side_sends, work_side_sends, config_syncs, reader_sends) depth 60 fits 9000

pub runtime_shares : (ℓ : Lifetime) (κ : Lft) → IsSend (ShrRef ℓ κ runtime.the_row)
runtime_shares ℓ κ = shr_send ℓ κ runtime.the_row runtime_syncs

-- ## What hosts hold

act_form_sends : IsSend (Enum (shape act.the_type))
act_form_sends = search (sendable, crosses, directive_sends) depth 60 fits 9000

statement_sends : IsSend statement.the_row
statement_sends = search (sendable, crosses, act_form_sends) depth 60 fits 9000

pub host_sends : IsSend host.the_row
host_sends = search (sendable, crosses, statement_sends) depth 60 fits 9000

token_entry_form_sends : IsSend (Enum (shape token_entry.the_type))
token_entry_form_sends = search (sendable, crosses, directive_sends) depth 60 fits 9000

token_entry_sends : IsSend token_entry.the_row
token_entry_sends = search (sendable, crosses, token_entry_form_sends) depth 60 fits 9000

pub token_sends : IsSend token.the_row
token_sends = search (sendable, crosses, token_entry_sends, reader_sends) depth 60 fits 9000

-- ## What the threads of a run share

marks_syncs : IsSync marks.the_row
marks_syncs = search (sendable, crosses) depth 60 fits 9000

pub marks_shares : (ℓ : Lifetime) (κ : Lft) → IsSend (ShrRef ℓ κ marks.the_row)
marks_shares ℓ κ = shr_send ℓ κ marks.the_row marks_syncs

crew_syncs : IsSync crew.the_row
crew_syncs = search (sendable, crosses) depth 60 fits 9000

pub crew_shares : (ℓ : Lifetime) (κ : Lft) → IsSend (ShrRef ℓ κ crew.the_row)
crew_shares ℓ κ = shr_send ℓ κ crew.the_row crew_syncs
