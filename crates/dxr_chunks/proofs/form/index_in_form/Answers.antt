use Rattle.std.proofs.Common.{◌≡◌, ℕ, subst}
use Rattle.dxr_chunks.specs.declared.form.Form.{Form}
use Rattle.dxr_chunks.specs.Form.{chunked}
use Rattle.dxr_chunks.specs.Table.{AreRightChunks, IsLinked}
use Rattle.dxr_chunks.proofs.form.index_in_form.Goals as goal

pub index_in_chunk-requires-in-Frozen-clause-linked : goal.index_in_chunk-requires-in-Frozen-clause-linked
index_in_chunk-requires-in-Frozen-clause-linked g c = subst (λ (f : Form). IsLinked (chunked f)) c.in-Frozen.is c.requires.linked

pub returns-in-Working-clause-answer : goal.returns-in-Working-clause-answer
returns-in-Working-clause-answer g c = λ answer right. c.index_in_chunk.ensures.answer answer (subst (λ (f : Form). AreRightChunks answer (chunked f)) c.in-Working.is right c.args.chunk c.requires.chunk)

pub returns-in-Working-clause-cost : goal.returns-in-Working-clause-cost
returns-in-Working-clause-cost g c = λ answer right. c.index_in_chunk.ensures.cost answer (subst (λ (f : Form). AreRightChunks answer (chunked f)) c.in-Working.is right c.args.chunk c.requires.chunk)

pub returns-in-Frozen-clause-answer : goal.returns-in-Frozen-clause-answer
returns-in-Frozen-clause-answer g c = λ answer right. c.index_in_chunk-in-Frozen.ensures.answer answer (subst (λ (f : Form). AreRightChunks answer (chunked f)) c.in-Frozen.is right c.args.chunk c.requires.chunk)

pub returns-in-Frozen-clause-cost : goal.returns-in-Frozen-clause-cost
returns-in-Frozen-clause-cost g c = λ answer right. c.index_in_chunk-in-Frozen.ensures.cost answer (subst (λ (f : Form). AreRightChunks answer (chunked f)) c.in-Frozen.is right c.args.chunk c.requires.chunk)
