use Rattle.std.proofs.Common.{◌≡◌, map}
use Rattle.clap.specs.Words.{kind_of}
use Rattle.clap.specs.declared.error.kind.ErrorKind.TheVariants.{OutOfMemory}
use Rattle.accq.specs.Words.{asked_of}
use Rattle.accq.proofs.WordsRefused.{words_refused}
use Rattle.accq.proofs.status.status_of.Goals as goal

pub returns-in-Err-clause-words : goal.returns-in-Err-clause-words
returns-in-Err-clause-words g c = λ many.
    words_refused (asked_of (map g.N.AsStr.text c.args.words.now)) (g.S.Store.holds c.args.files.now) (g.S.Store.opens c.args.files.now)
    (g.S.Folders.files_in c.args.files.now)
    (g.W.Write.contents c.args.output.now) c.told_words.result (kind_of c.in-Err.error ≡ OutOfMemory) c.in-Err.ensures.refused c.told_words.ensures.memory
    c.told_words.ensures.told
