-- A channel and its ops. Its numbers are in the slots from `received` to `sent`, modulo the room.
use Rattle.std.specs.Prelude.{ℕ, ◌+◌, ◌-◌, ◌%◌, ◌^◌, nat_lt, nat_eq, if◌then◌else◌, slice_set, slice_index}
use Rattle.example_channel.specs.declared.channel.Channel.{Channel}
use Rattle.example_channel.specs.declared.channel.ChannelOp.{ChannelOp}
use Rattle.example_channel.specs.declared.channel.ChannelOp.TheVariants.{Send, Receive, Close}
use Rattle.example_channel.specs.declared.channel.ChannelReply.{ChannelReply}

-- how many numbers it has room for
abbrev pub room : ℕ
room = 4

abbrev pub channel_after : Channel → ChannelOp → Channel
channel_after c (Send x) = if nat_lt (c.sent - c.received) room then record c { slots = slice_set c.slots (c.sent % room) x; sent = (c.sent + 1) % 2 ^ 64 } else c
channel_after c Receive = if nat_eq c.sent c.received then c else record c { received = (c.received + 1) % 2 ^ 64 }
channel_after c Close = record c { senders = c.senders - 1 }

abbrev pub channel_reply : Channel → ChannelOp → ChannelReply
channel_reply c (Send x) = if nat_lt (c.sent - c.received) room then ChannelReply.Sent else ChannelReply.Full
channel_reply c Receive =
    if nat_eq c.sent c.received then if nat_eq c.senders 0 then ChannelReply.Ended else ChannelReply.Empty else ChannelReply.Received (slice_index c.slots (c.received % room))
channel_reply c Close = ChannelReply.Closed
