-- The bytes of a reply, and how often memory for its room was refused.
use Rattle.std.specs.Prelude.{ℕ, List, take}
use Rattle.lx_embed.specs.declared.reply.ReplyText.{ReplyText}

-- those of its room that count
abbrev pub reply_bytes : ReplyText → List ℕ
reply_bytes reply = take reply.len reply.room.items

-- how often its heap refused
abbrev pub wants_of : ReplyText → ℕ
wants_of reply = reply.heap.refusals
