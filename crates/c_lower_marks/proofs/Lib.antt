mod Keeping
mod Gathering
mod Flagging
mod Heading
